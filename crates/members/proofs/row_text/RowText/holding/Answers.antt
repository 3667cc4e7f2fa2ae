use Rattle.std.proofs.Common.{◌≡◌, ◌-◌, ◌++◌, length, drop, replicate, ap, ◌∙◌, arith}
use Rattle.std.proofs.lemmas.List.{drop-replicate}
use Rattle.members.specs.Rows.{row_text_of}
use Rattle.members.proofs.row_text.RowText.holding.Goals as goal

pub returns : goal.returns
unfolding row_text_of
returns c =
    let n = length c.args.text.now in
    let left : 40 - (n - 0) ≡ 40 - n = omega arith in
    let zeros : drop (n - 0) (replicate 40 0) ≡ replicate (40 - n) 0 = drop-replicate (n - 0) 40 0 ∙ ap (λ k. replicate k 0) left in
    λ i. record { bytes = c.copy_from_slice.ensures.after i ++ zeros i; len = n }
