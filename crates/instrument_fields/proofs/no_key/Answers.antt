-- The definition's zeros are floats of the whole number 0, the default's its own: both compute to +0.
use lib.Ieee.{of_bits, of_int}
use Rattle.instrument_fields.proofs.Zeros.{key_is}
use Rattle.instrument_fields.proofs.no_key.Goals as goal

pub returns : goal.returns
unfolding of_bits of_int
returns c = let e = c.default.ensures in key_is e.0 e.1.0 e.1.1.0 e.1.1.1.0 e.1.1.1.1.0 e.1.1.1.1.1.0 e.1.1.1.1.1.1
