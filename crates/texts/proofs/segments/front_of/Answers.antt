use Rattle.std.proofs.Common.{◌≡◌, false, rules}
use Rattle.std.proofs.lemmas.Iterator.{YieldsList-from_slice}
use Rattle.texts.proofs.TryFolds.{kept_by_try_fold}
use Rattle.texts.specs.Alphabets.{allowed}
use Rattle.texts.specs.Texts.{path}
use Rattle.texts.proofs.Paths.{Sofar, onward_start, turn, ended}
use Rattle.texts.proofs.segments.front_of.Goals as goal

pub returns : goal.returns
returns c = λ low.
    let ok = allowed c.args.alphabet in
    let high = c.args.most in
    let text = c.args.text.now in
    let whole = path ok low high text in
    ended ok low high whole c.try_fold.result
    (kept_by_try_fold _ _ _ _ (Sofar ok low high whole) (whole ≡ false) (λ x a w h k. (search rules, turn ok low high whole x.now a w (search rules)))
    _ _ _ c.try_fold.result _ c.try_fold.ensures.ran (YieldsList-from_slice text c.iter.ensures.rest) (onward_start ok low high text))
