-- `rows::filter_next` meets its contract: each case is a number of strings. Assumes nothing.
use native.Mathlib.Omega.{arith}
use Rattle.rows.specs.Laws.{next_few}
use Rattle.rows.proofs.filter_next.Goals as goal

pub filter_one-requires-clause-few : goal.filter_one-requires-clause-few
filter_one-requires-clause-few c =
    next_few c.requires.all_fit c.requires.has_cells c.requires.at_string.0 (omega arith) (omega arith)

pub filter_together-requires-clause-few : goal.filter_together-requires-clause-few
filter_together-requires-clause-few c =
    next_few c.requires.all_fit c.requires.has_cells c.requires.at_string.0 (omega arith) (omega arith)

pub filter_together-requires-in-3-clause-few : goal.filter_together-requires-in-3-clause-few
filter_together-requires-in-3-clause-few c =
    next_few c.requires.all_fit c.requires.has_cells c.requires.at_string.0 (omega arith) (omega arith)
