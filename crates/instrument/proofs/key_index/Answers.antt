-- The place among the first keys is the definition's.
use mathlib.Core.Path.{◌∙◌}
use native.Mathlib.Omega.{arith}
use Rattle.instrument.proofs.Lists.{key_place_first}
use Rattle.instrument.proofs.key_index.Goals as goal

pub returns : goal.returns
returns c = c.place_of.ensures ∙ key_place_first c.args.instrument c.args.key (omega arith)
