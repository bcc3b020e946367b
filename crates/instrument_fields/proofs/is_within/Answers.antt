-- Two comparisons, as defined.
use Rattle.instrument_fields.specs.Ranges.{within}
use mathlib.Core.Path.{refl}
use Rattle.instrument_fields.proofs.is_within.Goals as goal

pub returns : goal.returns
unfolding within
returns c = refl
