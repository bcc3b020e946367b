-- The four calls' promises are the parts of the edit's.
use Rattle.session.proofs.Calls.{edited}
use Rattle.session.proofs.edit.Goals as goal

pub returns : goal.returns
returns c =
    let from = c.args in
    edited from.instrument from.session from.work.now from.q _ _ _ _ _ _ _ c.settle-t.ensures c.count_above-dropped.ensures c.drop_above.ensures
    c.restore-piano.ensures
