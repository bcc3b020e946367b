-- A refused remove gives back what it got. Where the tests passed, which `p` holds in each need, the event is there, and the edit's
-- promise is the call's.
use Rattle.std.proofs.Common.{ap, arith}
use Rattle.refusal.specs.Refusal.{number_in}
use Rattle.counting.specs.Meets.{meets_accepted}
use Rattle.session.proofs.Calls.{remove_tested, removes}
use Rattle.session.proofs.remove.Goals as goal

pub offset_bounds-session-index : goal.offset_bounds-session-index
offset_bounds-session-index c =
    let from = c.args in
    let p = remove_tested from.instrument from.session from.work.now _ _ c.in_default.is from.index c.remove_refusal.ensures in
    record { fits = omega (arith, p.there, p.records.few) }

pub bounds-session-index : goal.bounds-session-index
bounds-session-index c =
    let from = c.args in
    let p = remove_tested from.instrument from.session from.work.now _ _ c.in_default.is from.index c.remove_refusal.ensures in
    omega (arith, p.there, p.records.few)

pub remove_event-events-requires : goal.remove_event-events-requires
remove_event-events-requires c =
    let from = c.args in
    let p = remove_tested from.instrument from.session from.work.now _ _ c.in_default.is from.index c.remove_refusal.ensures in
    (p.there, p.records.few)

pub edit-requires : goal.edit-requires
edit-requires c =
    let from = c.args in
    let p = remove_tested from.instrument from.session from.work.now _ _ c.in_default.is from.index c.remove_refusal.ensures in
    (p.records.sound, p.records.room)

pub returns : goal.returns
returns c =
    let from = c.args in
    let p = remove_tested from.instrument from.session from.work.now _ _ c.in_default.is from.index c.remove_refusal.ensures in
    meets_accepted _ c.remove_refusal.ensures (ap number_in c.in_default.is)
    (removes from.instrument from.session from.work.now from.index p.there _ _ _ c.remove_event-events.ensures c.edit.ensures)
