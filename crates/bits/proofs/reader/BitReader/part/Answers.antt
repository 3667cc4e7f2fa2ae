use Rattle.std.proofs.Common.{◌≡◌, ◌+◌, ◌*◌, ◌%◌, Ok, sym, refl, ◌∙◌, arith}
use Rattle.bits.proofs.Codecs.{text_ok, text_short}
use Rattle.bits.proofs.reader.BitReader.part.Goals as goal

pub returns-then-self-first : goal.returns-then-self-first
returns-then-self-first c =
    let self = c.args.self.now in
    record {
      kept = refl;
      part = tt;
      whole = λ _. (text_short self.src.now self.pos c.args.len (omega arith), refl);
      inside = λ _. (refl, refl);
    }

pub returns : goal.returns
returns c =
    let self = c.args.self.now in
    let bytes = self.src.now in
    let n = c.args.len in
    let whole : self.pos % 8 ≡ 0 = omega arith in
    let next : self.pos + 8 * n ≡ self.pos + n * 8 = omega arith in
    record {
      kept = c.advance.ensures.kept;
      part = record { inside = omega arith; is = c.part_at-part.ensures };
      whole = λ _. text_ok bytes self.pos n whole (omega arith) self.small ∙ (λ i. Ok (sym c.part_at-part.ensures i, (next ∙ sym c.advance.ensures.moved) i));
      inside = λ h. absurd (h whole);
    }
