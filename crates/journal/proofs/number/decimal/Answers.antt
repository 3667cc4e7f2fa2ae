use Rattle.std.proofs.Common.{ℕ, rules}
use Rattle.std.proofs.lemmas.Iterator.{YieldsList-from_slice}
use Rattle.texts.proofs.TryFolds.{kept_by_try_fold}
use Rattle.journal.specs.Numbers.{Decimal}
use Rattle.journal.proofs.Decimals.{Sofar, begun, turn, ended}
use Rattle.journal.proofs.number.decimal.Goals as goal

pub returns : goal.returns
returns c =
    let word = c.args.word.now in
    ended word c.try_fold.result (search rules)
    (kept_by_try_fold _ _ _ _ (Sofar word) ((n : ℕ) → Decimal word n → ⊥) (λ x a w h k. (search rules, turn word x.now a w (search rules)))
    _ _ 0 c.try_fold.result _ c.try_fold.ensures.ran (YieldsList-from_slice word c.iter.ensures.rest) (begun word))
