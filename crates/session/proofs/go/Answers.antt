-- A refused go gives back what it got, and scratch is as it was. Where the tests passed, which `p` holds in each need, the held state
-- is restored, the renderer may have it, and what it gives is the promise.
use Rattle.std.proofs.Common.{rules, sym, ◌∙◌, ap, arith, length-take-le}
use Rattle.refusal.specs.Refusal.{number_in}
use Rattle.counting.specs.Meets.{meets_accepted}
use Rattle.session.proofs.Calls.{go_tested, go_ready, goes}
use Rattle.session.proofs.go.Goals as goal

pub part_size-w-requires : goal.part_size-w-requires
part_size-w-requires c =
    let from = c.args in
    let p = go_tested from.instrument from.session from.work.now _ _ c.in_default.is from.scratch.now from.p c.go_refusal.ensures in
    p.records.sound

pub restore-held-requires : goal.restore-held-requires
restore-held-requires c =
    let from = c.args in
    let p = go_tested from.instrument from.session from.work.now _ _ c.in_default.is from.scratch.now from.p c.go_refusal.ensures in
    (p.records.sound, p.records.room)

pub slice_bounds-render-end : goal.slice_bounds-render-end
slice_bounds-render-end c =
    let from = c.args in
    let p = go_tested from.instrument from.session from.work.now _ _ c.in_default.is from.scratch.now from.p c.go_refusal.ensures in
    omega (arith, p.records.room, c.part_size-w.ensures, c.restore-held.auto.work)

pub slice_bounds-render-end-2 : goal.slice_bounds-render-end-2
slice_bounds-render-end-2 c =
    let from = c.args in
    let p = go_tested from.instrument from.session from.work.now _ _ c.in_default.is from.scratch.now from.p c.go_refusal.ensures in
    sym (length-take-le _ _ (omega (arith, p.records.room, c.part_size-w.ensures, c.restore-held.auto.work)))

pub render-replayed-requires : goal.render-replayed-requires
render-replayed-requires c =
    let from = c.args in
    let p = go_tested from.instrument from.session from.work.now _ _ c.in_default.is from.scratch.now from.p c.go_refusal.ensures in
    let q = go_ready from.instrument from.session from.work.now from.scratch.now from.p p (search rules) _ c.start_of-start.ensures.0
    c.start_of-start.ensures.1 _ _ c.restore-held.ensures c.restore-held.auto.work _ c.part_size-w.ensures in
    record {
      renderable = q.0;
      count_bound = q.1;
      piano_at = q.2;
      m_bound = q.3;
    }

pub returns-clause-go_meets : goal.returns-clause-go_meets
returns-clause-go_meets c =
    let from = c.args in
    let p = go_tested from.instrument from.session from.work.now _ _ c.in_default.is from.scratch.now from.p c.go_refusal.ensures in
    meets_accepted _ c.go_refusal.ensures (ap number_in c.in_default.is)
    (goes from.instrument from.session from.work.now from.scratch.now from.p p (search rules) _ c.start_of-start.ensures.0
    c.start_of-start.ensures.1 _ _ c.restore-held.ensures c.restore-held.auto.work _ c.part_size-w.ensures
    _ _ _ c.render-replayed.ensures.state c.render-replayed.ensures.counted)
