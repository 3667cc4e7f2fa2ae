use Rattle.std.proofs.Common.{◌≡◌, eqb, None, refl, rules}
use borrow.Author.Tests.{tests}
use Rattle.std.proofs.lemmas.Iterator.Splits.{YieldsList-from_slice_split}
use Rattle.texts.proofs.TryFolds.{kept_by_try_fold}
use Rattle.texts.specs.Pieces.{pieces}
use Rattle.addresses.specs.Forms.{separator}
use Rattle.addresses.specs.Rows.{parts_of, empty, row_with}
use Rattle.addresses.proofs.Rows.{Reading, begun, turn, ended}
use Rattle.addresses.proofs.row.Row.read.Goals as goal

pub returns : goal.returns
returns c =
    let f = c.args.family in
    let sep = c.separator-separator.result in
    let read = row_with (empty f) (parts_of f (pieces (separator f) c.args.text.now)) in
    let kept = kept_by_try_fold _ _ _ _ (Reading f read) (None ≡ read) (λ x a w h k. (search rules, turn f read x.now a w (search rules)))
    _ _ c.new.result c.try_fold.result _ c.try_fold.ensures.ran
    (YieldsList-from_slice_split _ (λ b. eqb b sep) c.args.text.now c.split.ensures.rest c.split.ensures.done c.split.ensures.closure (λ x b q k. search (rules, tests)))
    (begun f read sep c.args.text.now c.new.result c.new.ensures c.separator-separator.ensures refl) in
    ended f read c.try_fold.result kept
