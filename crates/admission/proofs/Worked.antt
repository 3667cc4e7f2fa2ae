-- The worked examples, computed. Assumes nothing.
use Rattle.std.proofs.Common.{refl}
use Rattle.calendar.specs.Civil.{civil_of}
use Rattle.calendar.specs.Gregorian.{month_length, first_day, month_from, month_of}
use Rattle.texts.specs.Matching.{further, matches}
use Rattle.notes.specs.Constraints.{list_admits_option}
use Rattle.admission.specs.Examples.{Midnight, BlockExample, MatchingExample}
use Rattle.admission.specs.Misreadings.{MayDay, TwoContexts}

pub midnight : Midnight
unfolding list_admits_option civil_of month_of month_from first_day month_length
midnight = (refl, refl, refl, refl)

pub block_example : BlockExample
block_example = (refl, refl, refl)

pub matching_example : MatchingExample
unfolding matches further
matching_example = (refl, refl)

pub may_day : MayDay
unfolding civil_of month_of month_from first_day month_length
may_day = (refl, refl, refl)

pub two_contexts_apart : TwoContexts
unfolding list_admits_option civil_of month_of month_from first_day month_length
two_contexts_apart = (refl, refl)
