-- 7 where the instrument or the session is wrong, else what the work memory's test gives.
use Rattle.std.proofs.Common.{sym, ◌∙◌}
use Rattle.session_record.proofs.Tests.{record_sound, record_wrong_session, record_wrong_instrument}
use Rattle.session_record.proofs.record_refusal.Goals as goal

pub returns-then-not-is_valid : goal.returns-then-not-is_valid
returns-then-not-is_valid c = record_wrong_instrument _ _ _ (sym c.is_valid.ensures ∙ c.if-not-is_valid.true)

pub returns-then-not-is_sound_session : goal.returns-then-not-is_sound_session
returns-then-not-is_sound_session c =
    let instrument = sym c.is_valid.ensures ∙ c.if-not-is_valid.false in
    record_wrong_session _ _ _ instrument (sym c.is_sound_session.ensures ∙ c.if-not-is_sound_session.true)

pub returns : goal.returns
returns c =
    let instrument = sym c.is_valid.ensures ∙ c.if-not-is_valid.false in
    c.work_refusal.ensures ∙ record_sound _ _ _ instrument (sym c.is_sound_session.ensures ∙ c.if-not-is_sound_session.false)
