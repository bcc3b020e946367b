-- 7 where the instrument is wrong, else what the work memory's test gives.
use Rattle.std.proofs.Common.{sym, ◌∙◌}
use Rattle.session_record.proofs.Tests.{open_sound, open_wrong}
use Rattle.session_record.proofs.open_refusal.Goals as goal

pub returns-then-not-is_valid : goal.returns-then-not-is_valid
returns-then-not-is_valid c = open_wrong _ _ (sym c.is_valid.ensures ∙ c.if-not-is_valid.true)

pub returns : goal.returns
returns c = c.work_refusal.ensures ∙ open_sound _ _ (sym c.is_valid.ensures ∙ c.if-not-is_valid.false)
