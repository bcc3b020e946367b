-- `rows::run_rows` meets its contract. The loop's invariant: the values have passed the first s stages of each row. Assumes nothing.
use Rattle.string.specs.Table.{design_at}
use Rattle.rows.specs.Rows.{InRows}
use Rattle.rows.proofs.run_rows.Given as goal

abbrev pub invariant-loop-s : goal.invariant-loop-s
invariant-loop-s g l =
    InRows (design_at l.designs) l.here.i g.row.M l.s l.initial.v l.v l.initial.part l.part
