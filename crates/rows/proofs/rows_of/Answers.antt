-- `rows::rows_of` meets its contract. The loop's invariant: the rows of l strings are laid, and string i + l starts at `at`. Assumes nothing.
use mathlib.Core.Path.{refl}
use Prim.Native.Nat.{◌+◌}
use native.Mathlib.Omega.{arith}
use Rattle.std.proofs.Common.{length-set}
use Rattle.string.specs.Table.{design_at}
use Rattle.rows.specs.Laws.{cells_fit, start_after, laid_turn}
use Rattle.rows.proofs.rows_of.Goals as goal

pub layout-layout-requires : goal.layout-layout-requires
layout-layout-requires g c =
    let i = c.args.here.i in
    let fits = cells_fit (design_at c.args.designs.now) (i + c.loop-l.l) (i + g.row.M) (omega arith) in
    omega (arith, fits)

pub overflow_add-starts : goal.overflow_add-starts
overflow_add-starts g c =
    let i = c.args.here.i in
    let fits = cells_fit (design_at c.args.designs.now) (i + c.loop-l.l) (i + g.row.M) (omega arith) in
    omega (arith, fits)

pub overflow_add-at : goal.overflow_add-at
overflow_add-at g c =
    let i = c.args.here.i in
    let fits = cells_fit (design_at c.args.designs.now) (i + c.loop-l.l) (i + g.row.M) (omega arith) in
    omega (arith, fits)

pub loop-l-preserved : goal.loop-l-preserved
loop-l-preserved g c =
    let f = design_at c.args.designs.now in
    let i = c.args.here.i in
    let l = c.loop-l.l in
    let done = c.loop-l.invariant in
    let after = start_after f i l in
    let min = c.min-stages.ensures in
    record {
      start = omega (arith, after);
      laid = laid_turn f done.laid (omega arith) (omega arith) (c.loop-l.at + c.layout-layout.result.row) (f (i + l)).filter.ap_a
          c.min-stages.result (omega arith) refl (omega (arith, min)) (omega (arith, min));
      starts_len = simp length-set done.starts_len;
      ap_a_len = simp length-set done.ap_a_len;
    }
