-- Safe: the test gives what the renderer requires; there are cells for every instrument that passes.
use Rattle.std.proofs.Common.{arith, length-take}
use Rattle.instrument.specs.WorkLaws.{strings_bound, part_bound}
use Rattle.render.specs.Work.{valid_renderable}
use Rattle.machine.specs.Refusals.{scratch_cells}
use Rattle.test_render.proofs.block.play.Goals as goal

pub slice_bounds-scratch-end : goal.slice_bounds-scratch-end
unfolding scratch_cells
slice_bounds-scratch-end c =
    let passed = c.is_playable.ensures c.if-not-is_playable.false in
    omega (arith, (strings_bound _ passed.0).1, c.scratch_cells-asked.ensures)

pub slice_bounds-lent-end : goal.slice_bounds-lent-end
unfolding scratch_cells
slice_bounds-lent-end c =
    let passed = c.is_playable.ensures c.if-not-is_playable.false in
    simp length-take (omega (arith, (strings_bound _ passed.0).1, c.scratch_cells-asked.ensures))

pub render-requires-clause-renderable : goal.render-requires-clause-renderable
unfolding scratch_cells
render-requires-clause-renderable c =
    let i = c.args.instrument in
    let passed = c.is_playable.ensures c.if-not-is_playable.false in
    let strings = (strings_bound i passed.0).1 in
    let cells = part_bound i passed.0 in
    valid_renderable i passed.0 _ _ (omega (arith, cells)) (simp length-take (omega (arith, strings, c.scratch_cells-asked.ensures)))
