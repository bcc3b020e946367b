-- `rows::filter_one` meets its contract: the string is moved on, and no other. Assumes nothing.
use native.Mathlib.Omega.{arith}
use Rattle.string.specs.Table.{design_at}
use Rattle.rows.specs.Laws.{one_fits, one_is}
use Rattle.rows.proofs.filter_one.Goals as goal

pub layout-requires : goal.layout-requires
layout-requires c = let fits = one_fits c.requires.few in omega (arith, fits)

pub overflow_add-end : goal.overflow_add-end
overflow_add-end c = let fits = one_fits c.requires.few in omega (arith, fits)

pub offset_bounds-part-at : goal.offset_bounds-part-at
offset_bounds-part-at c = let fits = one_fits c.requires.few in omega (arith, fits)

pub slice_bounds-filter-end : goal.slice_bounds-filter-end
slice_bounds-filter-end c = let fits = one_fits c.requires.few in omega (arith, fits)

pub returns-clause-filtered : goal.returns-clause-filtered
returns-clause-filtered c =
    let args = c.args in
    let few = c.requires.few in
    let call = c.filter.ensures in
    one_is (design_at args.designs.now) args.here.i args.t args.part.now args.v_in.now args.here.at c.layout.result.size
    c.filter.result c.filter.new.part few.room (omega (arith, c.requires.has_v_in)) few.start c.layout.ensures.size call.0 call.1
