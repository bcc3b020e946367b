-- A session that passed 7 has t at most the end, so that END - t is a number; past 11 nothing is refused.
use Rattle.std.proofs.Common.{arith, sym, ◌∙◌, refl}
use Rattle.machine.specs.Laws.{else_next}
use Rattle.session_record.specs.Laws.{passed, passed_zero}
use Rattle.session_record.proofs.Tests.{play_0}
use Rattle.session_record.proofs.play_refusal.Goals as goal

pub overflow_sub-session : goal.overflow_sub-session
overflow_sub-session c =
    let from = c.args in
    (passed from.instrument from.session from.cells (passed_zero _ _ c.record_refusal.ensures _ c.in_ok-record_refusal.was)).inside

pub returns : goal.returns
returns c =
    let from = c.args in
    let zero = passed_zero _ _ c.record_refusal.ensures _ c.in_ok-record_refusal.was in
    let low = (passed from.instrument from.session from.cells zero).inside in
    play_0 from.instrument from.session.t from.scratch from.m from.trace (omega (arith, c.scratch_cells.ensures)) (omega arith) low (omega arith)
    ∙ else_next _ _ _ (sym zero) refl
