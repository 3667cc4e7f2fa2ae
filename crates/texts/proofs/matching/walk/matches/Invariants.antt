use Rattle.std.proofs.Common.{◌≡◌}
use Rattle.texts.specs.Matching.{matches}
use Rattle.texts.specs.Walks.{Sound, succeeds, steps_left}
use Rattle.texts.proofs.matching.walk.matches.Given as goal

abbrev pub invariant-loop-next : goal.invariant-loop-next
invariant-loop-next l = Sound l.walk × (succeeds l.walk ≡ matches l.pattern l.text)

abbrev pub decreases-loop-next : goal.decreases-loop-next
decreases-loop-next l = steps_left l.walk
