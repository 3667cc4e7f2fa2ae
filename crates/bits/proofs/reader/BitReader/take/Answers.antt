use Rattle.std.proofs.Common.{◌+◌, ◌^◌, ◌<◌, ◌≤◌, length, Ok, sym, refl, ◌∙◌, subst, arith}
use Rattle.bits.specs.Digits.{bits}
use Rattle.bits.proofs.DigitLaws.{length_bits}
use Rattle.bits.proofs.ByteLaws.{number_below}
use Rattle.bits.proofs.Codecs.{field_ok, field_short, field_wide}
use Rattle.bits.proofs.reader.BitReader.take.Goals as goal
use Rattle.bits.proofs.reader.BitReader.take.Goals.{then-width-gt128-via-then-width-gt128, then-width-gt128-via-else-width-gt128+then-left-width}

pub returns-then-width-gt128 : goal.returns-then-width-gt128
returns-then-width-gt128 c =
    let self = c.args.self.now in
    let w = c.args.width in
    elim c.then-width-gt128.branch [
      | then-width-gt128-via-then-width-gt128 way ↦ record { kept = refl; small = tt; cases = (field_wide w (bits self.src.now) self.pos (omega arith), refl) }
      | then-width-gt128-via-else-width-gt128+then-left-width way ↦
          let short : length (bits self.src.now) < self.pos + w = rw (length_bits self.src.now) (omega arith) in
          record { kept = refl; small = tt; cases = (field_short w (bits self.src.now) self.pos short, refl) }
    ]

pub returns : goal.returns
returns c =
    let self = c.args.self.now in
    let w = c.args.width in
    let long : self.pos + w ≤ length (bits self.src.now) = rw (length_bits self.src.now) (omega arith) in
    let few : w ≤ 128 = omega arith in
    record {
      kept = c.advance.ensures.kept;
      small = subst (λ v. v < 2 ^ w) (sym c.number_at-v.ensures) (number_below self.src.now self.pos w);
      cases = field_ok w (bits self.src.now) self.pos few long ∙ (λ i. Ok (sym c.number_at-v.ensures i, sym c.advance.ensures.moved i));
    }
