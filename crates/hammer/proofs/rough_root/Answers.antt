-- `hammer::rough_root` is safe: only a number has bits, and what is taken off those of 1 leaves a number's. Assumes nothing.
use native.Mathlib.Omega.{arith}
use lib.Ieee.{of_bits}
use Rattle.float.specs.Numbers.{lt_no_nan, low_no_nan}
use Rattle.float.specs.Order.{nought}
use Rattle.hammer.proofs.rough_root.Goals as goal

pub float_to_bits-bits : goal.float_to_bits-bits
unfolding of_bits
float_to_bits-bits c = lt_no_nan nought c.args.y c.if-y.true

pub float_from_bits-result : goal.float_from_bits-result
float_from_bits-result c = low_no_nan _ (omega arith)
