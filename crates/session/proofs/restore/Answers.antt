-- The three ways out: the piano now stands at x, a slot keeps x, or none does.
use Rattle.std.proofs.Common.{sym, ◌∙◌}
use Rattle.session.proofs.Held.{restored_now, restored_cue, restored_silence}
use Rattle.session.proofs.restore.Goals as goal

pub returns-then-x-session : goal.returns-then-x-session
returns-then-x-session c = restored_now c.args.instrument c.args.session c.args.work.now c.args.x c.if-x-session.true

pub returns-in-Some : goal.returns-in-Some
returns-in-Some c =
    let from = c.args in
    restored_cue from.instrument from.session from.work.now from.x c.if-x-session.false _ c.part_size-w.ensures _ (sym c.slot_at.ensures ∙ c.in-Some.is) _ _
    c.copy_part.ensures

pub returns-in-None : goal.returns-in-None
returns-in-None c =
    let from = c.args in
    restored_silence from.instrument from.session from.work.now from.x c.if-x-session.false _ c.part_size-w.ensures c.requires.0 c.requires.1
    (sym c.slot_at.ensures ∙ c.in-None.is) _ _ c.silent_piano.ensures c.silence_part.ensures
