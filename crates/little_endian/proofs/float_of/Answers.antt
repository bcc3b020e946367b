-- The test takes exactly the patterns of the NaNs away.
use lib.Ieee.{of_bits, div}
use Rattle.float.specs.Numbers.{low_no_nan}
use Rattle.little_endian.proofs.Patterns.{above_nan}
use Rattle.little_endian.proofs.float_of.Goals as goal

pub float_from_bits-result : goal.float_from_bits-result
float_from_bits-result c = low_no_nan _ c.if-bits-gt9218868437227405312.false

pub returns-then-bits-gt9218868437227405312 : goal.returns-then-bits-gt9218868437227405312
unfolding of_bits div
returns-then-bits-gt9218868437227405312 c = above_nan _ c.if-bits-gt9218868437227405312.true
