-- `filter::loop_filter` meets its contract: Thiran's call and the call of all that comes behind it, or the short return. Assumes nothing.
use mathlib.Core.Path.{sym, ap, ◌∙◌, subst}
use mathlib.Core.List.{List, ◌++◌}
use Prim.Native.Nat.{◌≤◌}
use lib.ListN.{length, drop}
use lib.Ieee.{Float}
use Rattle.filter.specs.Laws.{loop_length, loop_out_short, loop_cells_short}
use Rattle.filter.specs.Steps.{finish_out, finish_cells, begun_size, begun_out, begun_cells}
use Rattle.filter.proofs.loop_filter.Goals as goal

pub returns-then-cells-lt3 : goal.returns-then-cells-lt3
returns-then-cells-lt3 c =
    let args = c.args in
    (sym (loop_out_short args.filter args.cells.now args.x c.if-cells-lt3.true), sym (loop_cells_short args.filter args.cells.now args.x c.if-cells-lt3.true))

pub finish-requires : goal.finish-requires
finish-requires c =
    let f = c.args.cells.now in
    subst (λ (l : List Float). 3 ≤ length (l ++ drop 2 f)) (sym c.allpass-u.ensures.1) (begun_size c.args.filter f c.args.x c.if-cells-lt3.false)

pub returns : goal.returns
returns c =
    let z = c.args.filter in
    let f = c.args.cells.now in
    let e = c.allpass-u.ensures in
    let w = c.finish.ensures in (
      w.0 ∙ ap (λ (l : List Float). finish_out z 0 (l ++ drop 2 f) c.allpass-u.result) e.1
          ∙ ap (finish_out z 0 _) e.0 ∙ begun_out z f c.args.x c.if-cells-lt3.false,
      w.1 ∙ ap (λ (l : List Float). finish_cells z 0 (l ++ drop 2 f) c.allpass-u.result) e.1
          ∙ ap (finish_cells z 0 _) e.0 ∙ begun_cells z f c.args.x c.if-cells-lt3.false,
    )

pub shape_of-cells : goal.shape_of-cells
shape_of-cells c = ap length (returns c).1 ∙ loop_length c.args.filter c.args.cells.now c.args.x
