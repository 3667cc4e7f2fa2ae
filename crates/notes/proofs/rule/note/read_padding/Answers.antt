use Rattle.std.proofs.Common.{◌≡◌, ◌+◌, length, Ok, ap, ◌∙◌, arith}
use Rattle.bits.specs.Reader.{bytes, source, place}
use Rattle.bits.specs.Faults.{report}
use Rattle.bits.proofs.DigitLaws.{length_bits}
use Rattle.notes.specs.Faults.{broken}
use Rattle.notes.proofs.Padding.{excess, blank, marked, unread}
use Rattle.notes.proofs.rule.note.read_padding.Goals as goal

pub returns-then-left-ge8 : goal.returns-then-left-ge8
returns-then-left-ge8 c =
    let r = c.args.r.now in
    (excess (source r) (place r) (omega (arith, length_bits (bytes r))), ap (broken 7) c.place-place.ensures)

pub returns-in_err-rest : goal.returns-in_err-rest
returns-in_err-rest c =
    let r = c.args.r.now in
    let all : place r + c.left-left.result ≡ length (source r) = omega (arith, length_bits (bytes r)) in
    absurd (unread (source r) (place r) c.left-left.result all (omega arith) (report c.in_err-rest.field-0.0) c.in_err-rest.ensures.cases.0)

pub returns-then-rest-ne0 : goal.returns-then-rest-ne0
returns-then-rest-ne0 c =
    let r = c.args.r.now in
    let all : place r + c.left-left.result ≡ length (source r) = omega (arith, length_bits (bytes r)) in (
      marked (source r) (place r) c.left-left.result all (omega arith) c.in_ok-rest.rest (place c.take.new.self) c.if-rest-ne0.true c.in_ok-rest.ensures.cases,
      ap (broken 7) c.place-place.ensures,
    )

pub returns : goal.returns
returns c =
    let r = c.args.r.now in
    let all : place r + c.left-left.result ≡ length (source r) = omega (arith, length_bits (bytes r)) in
    blank (source r) (place r) c.left-left.result all (omega arith) (place c.take.new.self)
    (c.in_ok-rest.ensures.cases ∙ (λ i. Ok (c.if-rest-ne0.false i, place c.take.new.self)))
