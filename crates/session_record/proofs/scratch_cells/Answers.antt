-- S, as the instrument has it.
use mathlib.Core.Path.{refl}
use Rattle.machine.specs.Refusals.{scratch_cells}
use Rattle.session_record.proofs.scratch_cells.Goals as goal

pub returns : goal.returns
unfolding scratch_cells
returns c = refl
