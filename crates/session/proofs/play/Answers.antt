-- A refused play gives back what it got, and scratch is as it was. Where the tests passed, which `p` holds in each need, the renderer
-- may have the first part, and what it gives is the promise.
use Rattle.std.proofs.Common.{sym, ◌∙◌, ap, arith, length-take-le}
use Rattle.refusal.specs.Refusal.{number_in}
use Rattle.counting.specs.Meets.{meets_accepted}
use Rattle.session.proofs.Calls.{play_tested, play_ready, counted, plays}
use Rattle.session.proofs.play.Goals as goal

pub part_size-w-requires : goal.part_size-w-requires
part_size-w-requires c =
    let from = c.args in
    let p = play_tested from.instrument from.session from.work.now _ _ c.in_default.is from.scratch.now from.out.now from.trace.now c.play_refusal.ensures in
    p.records.sound

pub slice_bounds-render-end : goal.slice_bounds-render-end
slice_bounds-render-end c =
    let from = c.args in
    let p = play_tested from.instrument from.session from.work.now _ _ c.in_default.is from.scratch.now from.out.now from.trace.now c.play_refusal.ensures in
    omega (arith, p.records.room, c.part_size-w.ensures)

pub slice_bounds-render-end-2 : goal.slice_bounds-render-end-2
slice_bounds-render-end-2 c =
    let from = c.args in
    let p = play_tested from.instrument from.session from.work.now _ _ c.in_default.is from.scratch.now from.out.now from.trace.now c.play_refusal.ensures in
    sym (length-take-le _ _ (omega (arith, p.records.room, c.part_size-w.ensures)))

pub render-played-requires : goal.render-played-requires
render-played-requires c =
    let from = c.args in
    let p = play_tested from.instrument from.session from.work.now _ _ c.in_default.is from.scratch.now from.out.now from.trace.now c.play_refusal.ensures in
    let q = play_ready from.instrument from.session from.work.now from.scratch.now from.out.now from.trace.now p _ c.part_size-w.ensures in
    record {
      renderable = q.0;
      count_bound = q.1;
      piano_at = q.2;
      m_bound = q.3;
    }

pub overflow_add-next : goal.overflow_add-next
overflow_add-next c =
    let from = c.args in
    let p = play_tested from.instrument from.session from.work.now _ _ c.in_default.is from.scratch.now from.out.now from.trace.now c.play_refusal.ensures in
    record { fits = omega (arith, p.stops) }

pub unwrap-requires : goal.unwrap-requires
unwrap-requires c =
    let from = c.args in
    let p = play_tested from.instrument from.session from.work.now _ _ c.in_default.is from.scratch.now from.out.now from.trace.now c.play_refusal.ensures in
    counted from.instrument from.session from.work.now from.scratch.now from.out.now from.trace.now p _ c.part_size-w.ensures _ _ _ _ _
    c.render-played.ensures c.contacts-contacts.ensures

pub returns-clause-play_meets : goal.returns-clause-play_meets
returns-clause-play_meets c =
    let from = c.args in
    let p = play_tested from.instrument from.session from.work.now _ _ c.in_default.is from.scratch.now from.out.now from.trace.now c.play_refusal.ensures in
    meets_accepted _ c.play_refusal.ensures (ap number_in c.in_default.is)
    (plays from.instrument from.session from.work.now from.scratch.now from.out.now from.trace.now p _ c.part_size-w.ensures _ _ _ _ _ _
    c.render-played.ensures c.contacts-contacts.ensures c.unwrap.ensures)
