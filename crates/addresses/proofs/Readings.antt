-- The examples, read. Assumes nothing.
use Rattle.std.proofs.Common.{refl}
use Rattle.texts.specs.Pieces.{pieces}
use Rattle.addresses.specs.Examples.{Written, Refused}
use Rattle.addresses.specs.Gaps.{around}
use Rattle.addresses.specs.Numerals.{numeral_of}
use Rattle.addresses.specs.Rows.{parts_of}

pub written : Written
unfolding pieces around numeral_of parts_of
written = (refl, refl, refl, refl, refl, refl)

pub refused : Refused
unfolding pieces around numeral_of parts_of
refused = (refl, refl, refl, refl, refl, refl, refl, refl, refl, refl)
