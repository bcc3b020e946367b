-- The first of the slots left is sound and no later slot keeps it again, or it is not so; where none is left, all passed.
use Rattle.std.proofs.Common.{sym, ◌∙◌, ap}
use Rattle.std.specs.Option.{is_some}
use Rattle.session_cues.specs.Laws.{slot_found}
use Rattle.session_cues.proofs.Slots.{wrong_here, sound_here, none_left}
use Rattle.session_cues.proofs.are_sound.Goals as goal

pub returns-then-again-is_sound_cue : goal.returns-then-again-is_sound_cue
returns-then-again-is_sound_cue c =
    let again = c.is_some.ensures ∙ ap is_some c.slot_at.ensures ∙ slot_found _ _ in
    wrong_here _ _ _ _ c.in-Some.ensures.cases.0 _ _ c.is_sound_cue.ensures again c.if-again-is_sound_cue.true ∙ c.loop-cue.invariant

pub loop-cue-preserved : goal.loop-cue-preserved
loop-cue-preserved c =
    let again = c.is_some.ensures ∙ ap is_some c.slot_at.ensures ∙ slot_found _ _ in
    sound_here _ _ _ _ c.in-Some.ensures.cases.0 _ _ c.is_sound_cue.ensures again c.if-again-is_sound_cue.false ∙ c.loop-cue.invariant

pub returns : goal.returns
returns c = none_left _ _ c.in_default.ensures.cases ∙ c.loop-cue.invariant
