-- Past the first test x is a number.
use mathlib.Core.Path.{sym, ap, ◌∙◌}
use lib.Ieee.{binary64, to_bits}
use Rattle.little_endian.proofs.Patterns.{nan_is}
use Rattle.little_endian.proofs.bits_of.Goals as goal

pub returns-then-is_nan : goal.returns-then-is_nan
unfolding to_bits
returns-then-is_nan c = ap (to_bits binary64) (nan_is c.args.x (sym c.is_nan.ensures.value ∙ c.if-is_nan.true))
