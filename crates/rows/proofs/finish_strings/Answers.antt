-- `rows::finish_strings` meets its contract. The loop's invariant: l strings are finished, and string i + l starts at `at`. Assumes nothing.
use Prim.Native.Nat.{◌*◌}
use native.Mathlib.Omega.{arith}
use Rattle.string.specs.Table.{design_at}
use Rattle.rows.specs.Laws.{few_fits, finished_turn}
use Rattle.rows.proofs.finish_strings.Goals as goal

pub layout-requires : goal.layout-requires
layout-requires g c = let fits = few_fits c.requires.few c.loop-l.l c.loop-l-test.true in omega (arith, fits)

pub overflow_add-end : goal.overflow_add-end
overflow_add-end g c = let fits = few_fits c.requires.few c.loop-l.l c.loop-l-test.true in omega (arith, fits)

pub offset_bounds-part-at : goal.offset_bounds-part-at
offset_bounds-part-at g c = let fits = few_fits c.requires.few c.loop-l.l c.loop-l-test.true in omega (arith, fits)

pub slice_bounds-finish_filter-end : goal.slice_bounds-finish_filter-end
slice_bounds-finish_filter-end g c = let fits = few_fits c.requires.few c.loop-l.l c.loop-l-test.true in omega (arith, fits)

pub loop-l-preserved : goal.loop-l-preserved
loop-l-preserved g c =
    let args = c.args in
    let few = c.requires.few in
    let taken = c.loop-l-test.true in
    let done = c.loop-l.invariant in
    let enough = c.requires.laid.enough c.loop-l.l taken in
    let long = done.outputs.same in
    let call = c.finish_filter.ensures in
    finished_turn (design_at args.designs.now) args.here.i c.loop-l.l g.row.M 0 args.part.now c.loop-l.part few.room taken
    c.loop-l.at c.layout.result.size done.end c.layout.ensures.size
    (2 * args.rows.stages) args.v.now args.v_in.now c.loop-l.v_in c.loop-l.at done (omega (arith, enough))
    (omega (arith, long, c.requires.has_v_in, taken)) c.finish_filter.result c.finish_filter.new.part call.0 call.1
