use Rattle.std.proofs.Common.{drop}
use Rattle.addresses.proofs.Digits.{Sofar}
use Rattle.addresses.proofs.numeral.numeral.Given as goal

abbrev pub invariant-loop-byte : goal.invariant-loop-byte
invariant-loop-byte l = Sofar l.base l.piece (drop l.byte-index l.piece) l.number l.byte-index
