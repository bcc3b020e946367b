-- `root::approximate` is safe: the patterns that it makes floats of are no NaN's. Assumes nothing.
use Rattle.std.proofs.Common.{arith}
use Rattle.float.specs.Numbers.{low_no_nan}
use Rattle.root.proofs.approximate.Goals as goal

pub float_from_bits-x : goal.float_from_bits-x
float_from_bits-x c = low_no_nan c.args.bits (omega arith)

pub float_from_bits-y0 : goal.float_from_bits-y0
float_from_bits-y0 c = low_no_nan _ (omega arith)
