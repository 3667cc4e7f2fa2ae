use Rattle.std.proofs.Common.{◌≡◌, ◌+◌, ◌*◌, ◌≤◌, length, get_or, take, sym, refl, ap, ◌∙◌, arith}
use Rattle.bits.specs.Digits.{digits, bits, laid}
use Rattle.bits.proofs.DigitLaws.{length_bits, bits_more, length_bits_take}
use Rattle.bits.proofs.Laying.{laid_nothing, laid_laid}
use Rattle.bits.proofs.writer.lay_bytes.Goals as goal

pub loop-i-init : goal.loop-i-init
unfolding bits
loop-i-init c = (sym (laid_nothing (bits c.args.out.now) c.args.start), λ k h. refl)

pub loop-i-preserved : goal.loop-i-preserved
loop-i-preserved c =
    let text = c.args.text.now in
    let i = c.loop-i.i in
    let byte = digits 8 (get_or text i 0) in
    let old = bits c.args.out.now in
    let start = c.args.start in
    let front = bits (take i text) in
    let at : start + i * 8 ≡ start + length front = omega (arith, length_bits_take text i (omega arith)) in
    let inside : start ≤ length old = rw (length_bits c.args.out.now) (omega arith) in (
      c.lay.ensures.field ∙ (λ j. laid (c.loop-i.invariant.0 j) (at j) byte) ∙ laid_laid old start front byte inside
          ∙ ap (laid old start) (sym (bits_more text i (omega arith))),
      λ k h. c.lay.ensures.behind k (omega arith) ∙ c.loop-i.invariant.1 k h,
    )
