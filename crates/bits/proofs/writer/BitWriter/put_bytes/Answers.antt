use Rattle.std.proofs.Common.{◌+◌, ◌*◌, ◌≤◌, length, sym, refl, arith, le-leb}
use borrow.Author.Tests.{true-leb}
use Rattle.bits.proofs.DigitLaws.{length_bits}
use Rattle.bits.proofs.writer.BitWriter.put_bytes.Goals as goal

pub returns : goal.returns
returns c =
    let self = c.args.self.now in
    let text = c.args.text.now in
    let room : self.pos + length text * 8 ≤ 8 * length self.out.now = true-leb (self.pos + length text * 8) (8 * length self.out.now) c.if-not-has_room.ensures in
    let same : self.pos + 8 * length text ≤ 8 * length self.out.now = omega arith in
    record {
      test = sym (le-leb (self.pos + 8 * length text) (8 * length self.out.now) same);
      cases = record {
        room = omega arith;
        moved = omega (arith, length_bits text);
        written = c.lay_bytes.ensures.field;
        behind = λ k h. c.lay_bytes.ensures.behind k (omega arith);
        size = omega arith;
        lent = refl;
      };
    }
