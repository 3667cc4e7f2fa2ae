-- The lengths of forms, from which the room for them follows. Assumes nothing.
use Rattle.std.proofs.Common.{length-append}
use Rattle.bits.proofs.DigitLaws.{length_digits, length_bits}

pub ruleset room = (length-append, length_digits, length_bits)
