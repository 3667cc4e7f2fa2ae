use Rattle.std.proofs.Common.{◌+◌, ◌*◌, ◌≤◌, ◌&&◌, length, sym, refl, arith, le-leb}
use borrow.Author.Tests.{true-leb}
use Rattle.bits.proofs.DigitLaws.{length_digits}
use Rattle.bits.proofs.writer.BitWriter.put.Goals as goal

pub returns : goal.returns
returns c =
    let self = c.args.self.now in
    let w = c.args.width in
    let room : self.pos + w ≤ 8 * length self.out.now = true-leb (self.pos + w) (8 * length self.out.now) c.if-not-has_room.ensures in
    let few : w ≤ 128 = omega arith in
    record {
      test = sym (λ i. le-leb w 128 few i && le-leb (self.pos + w) (8 * length self.out.now) room i);
      cases = record {
        room = omega arith;
        moved = omega (arith, length_digits w c.args.v);
        written = c.lay.ensures.field;
        behind = c.lay.ensures.behind;
        size = omega arith;
        lent = refl;
      };
    }
