-- `rows::filter_together` meets its contract: each string starts, passes the common stages, and is finished. Assumes nothing.
use Rattle.string.specs.Table.{design_at}
use Rattle.rows.specs.Laws.{filtered_is}
use Rattle.rows.proofs.filter_together.Goals as goal

pub returns-clause-filtered : goal.returns-clause-filtered
returns-clause-filtered g c =
    let args = c.args in
    filtered_is (design_at args.designs.now) args.here.i g.row.M args.t c.rows_of-rows.result args.part.now _ _ _ _ _
    args.v_in.now _ _ c.requires.few.room c.rows_of-rows.ensures c.start_strings-v.ensures c.run_rows.ensures c.finish_strings-at.ensures
