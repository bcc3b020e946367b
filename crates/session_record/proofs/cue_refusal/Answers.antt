-- 7 and 8 let the records through; then 15: where t has a slot, or a slot is free, fewer than four others are kept, and where neither is so, four are.
use Rattle.std.proofs.Common.{rules, sym, ◌∙◌, ap, refl}
use Rattle.std.specs.Option.{is_some}
use Rattle.machine.specs.Laws.{else_next}
use Rattle.session_record.specs.Laws.{passed_zero}
use Rattle.session_record.proofs.Tests.{cue_again, cue_spare, cue_full}
use Rattle.session_record.proofs.cue_refusal.Goals as goal

pub returns-then-is_some : goal.returns-then-is_some
returns-then-is_some c =
    let from = c.args.session in
    let zero = passed_zero _ _ c.record_refusal.ensures _ c.in_ok-record_refusal.was in
    cue_again from.t from.cues (search rules) (ap is_some (sym c.slot_at.ensures) ∙ sym c.is_some.ensures ∙ c.if-is_some.true)
    ∙ else_next _ _ _ (sym zero) refl

pub returns-then-is_some-2 : goal.returns-then-is_some-2
returns-then-is_some-2 c =
    let from = c.args.session in
    let zero = passed_zero _ _ c.record_refusal.ensures _ c.in_ok-record_refusal.was in
    cue_spare from.t from.cues (search rules) (ap is_some (sym c.free_slot.ensures) ∙ sym c.is_some-2.ensures ∙ c.if-is_some-2.true)
    ∙ else_next _ _ _ (sym zero) refl

pub returns : goal.returns
returns c =
    let from = c.args.session in
    let zero = passed_zero _ _ c.record_refusal.ensures _ c.in_ok-record_refusal.was in
    cue_full from.t from.cues (search rules) (ap is_some (sym c.slot_at.ensures) ∙ sym c.is_some.ensures ∙ c.if-is_some.false)
    (ap is_some (sym c.free_slot.ensures) ∙ sym c.is_some-2.ensures ∙ c.if-is_some-2.false)
    ∙ else_next _ _ _ (sym zero) refl
