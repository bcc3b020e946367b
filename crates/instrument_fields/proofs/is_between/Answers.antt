-- Two comparisons, as defined.
use Rattle.instrument_fields.specs.Ranges.{strictly_between}
use mathlib.Core.Path.{refl}
use Rattle.instrument_fields.proofs.is_between.Goals as goal

pub returns : goal.returns
unfolding strictly_between
returns c = refl
