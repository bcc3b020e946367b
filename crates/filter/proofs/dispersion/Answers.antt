-- `filter::dispersion` meets its contract. The loop's invariant: what is left of the row from cell j on gives the output and the cells of the whole.
-- Assumes nothing.
use Prim.Native.Nat.{◌+◌, ◌-◌}
use native.Mathlib.Omega.{arith}
use Rattle.filter.proofs.Row.{passed_start, passed_turn, passed_end}
use Rattle.filter.proofs.dispersion.Goals as goal

pub loop-j-init : goal.loop-j-init
loop-j-init c = let args = c.args in passed_start args.a args.x args.cells.now

pub overflow_add-j : goal.overflow_add-j
overflow_add-j c = omega arith

pub overflow_add-j-in-loop-j : goal.overflow_add-j-in-loop-j
overflow_add-j-in-loop-j c = omega arith

pub offset_bounds-cells-j : goal.offset_bounds-cells-j
offset_bounds-cells-j c = omega arith

pub slice_bounds-allpass-count : goal.slice_bounds-allpass-count
slice_bounds-allpass-count c = omega arith

pub slice_bounds-allpass-start : goal.slice_bounds-allpass-start
slice_bounds-allpass-start c = omega arith

pub slice_bounds-allpass-end : goal.slice_bounds-allpass-end
slice_bounds-allpass-end c = omega arith

pub overflow_add-j-in-loop-j-2 : goal.overflow_add-j-in-loop-j-2
overflow_add-j-in-loop-j-2 c = omega arith

pub loop-j-smaller : goal.loop-j-smaller
loop-j-smaller c = omega arith

pub loop-j-preserved : goal.loop-j-preserved
loop-j-preserved c =
    let args = c.args in
    passed_turn args.a args.x args.cells.now c.loop-j.cells c.allpass-v.new.cells c.loop-j.v c.allpass-v.result c.loop-j.j (c.loop-j.j + 2 - c.loop-j.j)
    c.loop-j.invariant (omega arith) (omega arith) c.allpass-v.ensures.0 c.allpass-v.ensures.1

pub shape_of-cells : goal.shape_of-cells
shape_of-cells c = c.loop-j.invariant.same

pub returns : goal.returns
returns c =
    let args = c.args in
    passed_end args.a args.x args.cells.now c.loop-j.cells c.loop-j.v c.loop-j.j c.loop-j.invariant (omega arith)
