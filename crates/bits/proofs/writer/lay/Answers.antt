use Rattle.std.proofs.Common.{◌≡◌, ◌+◌, ◌-◌, ◌/◌, ◌%◌, ◌^◌, ◌≤◌, length, get_or, set, sym, refl, ap, ◌∙◌, arith, drop-set-lt, pow_pos}
use Rattle.std.proofs.lemmas.Nat.{mod_below}
use Rattle.bits.specs.Digits.{digits, bits, laid, replaced}
use Rattle.bits.proofs.DigitLaws.{length_bits}
use Rattle.bits.proofs.Laying.{laid_nothing}
use Rattle.bits.proofs.ByteLaws.{bits_replaced, laid_more}
use Rattle.bits.proofs.writer.lay.Goals as goal

pub loop-left-init : goal.loop-left-init
unfolding digits
loop-left-init c =
    let none : c.args.width - c.args.width ≡ 0 = omega arith in
    let nothing : digits (c.args.width - c.args.width) (c.args.v / 2 ^ c.args.width) ≡ digits 0 (c.args.v / 2 ^ c.args.width) = ap (λ k. digits k (c.args.v / 2 ^ c.args.width)) none in (
      omega arith,
      omega arith,
      omega arith,
      sym (ap (laid (bits c.args.out.now) c.args.start) nothing ∙ laid_nothing (bits c.args.out.now) c.args.start),
      λ k h. refl,
    )

pub loop-left-preserved : goal.loop-left-preserved
loop-left-preserved c =
    let old = bits c.args.out.now in
    let out = c.loop-left.out in
    let start = c.args.start in
    let left = c.loop-left.left in
    let n = c.min-n.result in
    let i = c.args.width - left in
    let inside : start ≤ length old = rw (length_bits c.args.out.now) (omega arith) in
    let next : i + n ≡ c.args.width - (left - n) = omega arith in
    let run = c.args.v / 2 ^ (left - n) % 2 ^ n in
    let written : bits (set out c.loop-left.byte c.with_run.result) ≡ laid (bits out) (start + i) (digits n run) =
    ap (λ b. bits (set out c.loop-left.byte b)) (c.with_run.ensures ∙ ap (replaced (get_or out c.loop-left.byte 0) c.loop-left.used n) c.run_of_number-run.ensures)
    ∙ bits_replaced out c.loop-left.byte c.loop-left.used n run (start + i) (omega arith) (omega arith) (mod_below _ (2 ^ n) (pow_pos n)) c.loop-left.invariant.2 in (
      omega arith,
      omega arith,
      omega arith,
      written ∙ ap (λ l. laid l (start + i) (digits n run)) c.loop-left.invariant.3 ∙ laid_more old start i left n c.args.v inside (omega arith)
          ∙ ap (λ k. laid old start (digits k (c.args.v / 2 ^ (left - n)))) next,
      λ k h. drop-set-lt k out c.loop-left.byte c.with_run.result (omega arith) ∙ c.loop-left.invariant.4 k h,
    )
