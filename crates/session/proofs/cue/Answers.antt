-- A refused cue gives back what it got. Where the tests passed, which `p` holds in each need, t is kept already, or a slot is free and
-- its part takes the first.
use Rattle.std.proofs.Common.{rules, sym, ◌∙◌, ap, arith}
use Rattle.std.specs.Option.{is_some}
use Rattle.refusal.specs.Refusal.{number_in}
use Rattle.counting.specs.Meets.{meets_accepted}
use Rattle.session.proofs.Calls.{cue_tested, cue_again, cue_free, cue_apart, cue_added}
use Rattle.session.proofs.cue.Goals as goal

pub returns-then-is_some : goal.returns-then-is_some
returns-then-is_some c =
    let from = c.args in
    let p = cue_tested from.instrument from.session from.work.now _ _ c.in_default.is c.cue_refusal.ensures in
    let again = ap is_some (sym c.slot_at.ensures) ∙ sym c.is_some.ensures in
    meets_accepted _ c.cue_refusal.ensures (ap number_in c.in_default.is)
    (cue_again from.instrument from.session from.work.now p (search rules) _ again c.if-is_some.true)

pub unwrap-slot-requires : goal.unwrap-slot-requires
unwrap-slot-requires c =
    let from = c.args in
    let p = cue_tested from.instrument from.session from.work.now _ _ c.in_default.is c.cue_refusal.ensures in
    let again = ap is_some (sym c.slot_at.ensures) ∙ sym c.is_some.ensures in
    ap is_some c.free_slot.ensures ∙ cue_free from.instrument from.session from.work.now p (search rules) _ again c.if-is_some.false

pub part_size-w-requires : goal.part_size-w-requires
part_size-w-requires c =
    let from = c.args in
    let p = cue_tested from.instrument from.session from.work.now _ _ c.in_default.is c.cue_refusal.ensures in
    p.records.sound

pub overflow_mul-slot : goal.overflow_mul-slot
overflow_mul-slot c =
    let from = c.args in
    let p = cue_tested from.instrument from.session from.work.now _ _ c.in_default.is c.cue_refusal.ensures in
    let again = ap is_some (sym c.slot_at.ensures) ∙ sym c.is_some.ensures in
    let found = sym c.free_slot.ensures ∙ c.unwrap-slot.ensures in
    let apart = cue_apart from.instrument from.session from.work.now p (search rules) _ again c.if-is_some.false _ found _ c.part_size-w.ensures in
    record { fits = omega (arith, apart.goes) }

pub copy_part-requires : goal.copy_part-requires
copy_part-requires c =
    let from = c.args in
    let p = cue_tested from.instrument from.session from.work.now _ _ c.in_default.is c.cue_refusal.ensures in
    let again = ap is_some (sym c.slot_at.ensures) ∙ sym c.is_some.ensures in
    let found = sym c.free_slot.ensures ∙ c.unwrap-slot.ensures in
    cue_apart from.instrument from.session from.work.now p (search rules) _ again c.if-is_some.false _ found _ c.part_size-w.ensures

pub returns : goal.returns
returns c =
    let from = c.args in
    let p = cue_tested from.instrument from.session from.work.now _ _ c.in_default.is c.cue_refusal.ensures in
    let again = ap is_some (sym c.slot_at.ensures) ∙ sym c.is_some.ensures in
    let found = sym c.free_slot.ensures ∙ c.unwrap-slot.ensures in
    meets_accepted _ c.cue_refusal.ensures (ap number_in c.in_default.is)
    (cue_added from.instrument from.session from.work.now p (search rules) _ again c.if-is_some.false _ found _ c.part_size-w.ensures _
    c.copy_part.ensures)
