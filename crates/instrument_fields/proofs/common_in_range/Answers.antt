-- The expression is the definition of specs/Ranges.antt, test by test; the constants compute to the floats that it names.
use lib.Ieee.{of_bits, of_int}
use Rattle.counting.specs.Every.{every, every_after}
use Rattle.instrument_fields.specs.Ranges.{common_in_range}
use Rattle.instrument_fields.proofs.common_in_range.Goals as goal

pub returns : goal.returns
unfolding common_in_range every every_after of_bits of_int
returns c = cc
