-- The expression is the definition of specs/Ranges.antt, test by test.
use mathlib.Core.Path.{refl}
use Rattle.instrument_fields.specs.Ranges.{exponent_in_range}
use Rattle.instrument_fields.proofs.exponent_in_range.Goals as goal

pub returns : goal.returns
unfolding exponent_in_range
returns c = refl
