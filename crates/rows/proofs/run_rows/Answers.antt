-- `rows::run_rows` meets its contract. The loop's invariant: the values have passed the first s stages of each row. Assumes nothing.
use native.Mathlib.Omega.{arith}
use Rattle.string.specs.Table.{design_at}
use Rattle.rows.specs.Laws.{rows_none, rows_turn}
use Rattle.rows.proofs.run_rows.Goals as goal

pub loop-s-init : goal.loop-s-init
loop-s-init g c =
    let args = c.args in
    rows_none (design_at args.designs.now) args.here.i g.row.M args.v.now args.part.now c.requires.few.room

pub loop-s-preserved : goal.loop-s-preserved
loop-s-preserved g c =
    let args = c.args in
    let laid = c.requires.laid in
    let taken = c.loop-s-test.true in
    rows_turn (design_at args.designs.now) args.here.i g.row.M c.loop-s.s args.v.now c.loop-s.v _ args.part.now c.loop-s.part _
    c.requires.few.room (λ l h. let n = laid.enough l h in omega (arith, n, taken)) c.loop-s.invariant c.next_stage.ensures
