-- A refused file gives its number and zeros, an accepted one its own numbers and what the calls on it ask for. Assumes nothing.
use Rattle.std.proofs.Common.{sym, ◌∙◌}
use Rattle.crossing.specs.Crossing.{sizes_of}
use Rattle.crossing.proofs.file_sizes.Goals as goal

pub returns-in-Err : goal.returns-in-Err
unfolding sizes_of
returns-in-Err c = rw (sym c.read.ensures ∙ c.in-Err.is, c.from.ensures)

pub returns-in-Ok : goal.returns-in-Ok
unfolding sizes_of
returns-in-Ok c = rw (sym c.read.ensures ∙ c.in-Ok.is, c.work_cells.ensures.0, c.scratch_cells.ensures)
