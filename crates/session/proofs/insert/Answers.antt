-- A refused insert gives back what it got. Where the tests passed, there is a place for the event, and the edit's promise is the call's.
use Rattle.std.proofs.Common.{ap}
use Rattle.refusal.specs.Refusal.{number_in}
use Rattle.counting.specs.Meets.{meets_accepted}
use Rattle.session.proofs.Calls.{insert_tested}
use Rattle.session.proofs.insert.Goals as goal

pub edit-requires : goal.edit-requires
edit-requires c =
    let from = c.args in
    let p = insert_tested from.instrument from.session from.work.now _ _ c.in_default.is from.timed c.insert_refusal.ensures in
    (p.records.sound, p.records.room)

pub returns : goal.returns
returns c =
    meets_accepted _ c.insert_refusal.ensures (ap number_in c.in_default.is) (rw c.place_event-events.ensures at c.edit.ensures)
