-- `filter::finish` meets its contract: the row's call on the rest of the cells and the loss's store. Assumes nothing.
use Rattle.filter.specs.Filter.{loss_of}
use Rattle.filter.specs.Steps.{finish_out, finish_cells}
use Rattle.filter.proofs.finish.Goals as goal

pub returns : goal.returns
unfolding finish_out finish_cells loss_of
returns c = let row = c.dispersion-w.ensures in (rw (row.0, row.1), rw (row.0, row.1))
