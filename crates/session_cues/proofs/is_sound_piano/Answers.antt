-- Its two tests, each by its own contract.
use Rattle.std.proofs.Common.{◌∙◌}
use Rattle.score.specs.Contacts.{contacts_of}
use Rattle.session_cues.specs.Cues.{sound_piano}
use Rattle.session_cues.proofs.is_sound_piano.Goals as goal

pub returns : goal.returns
unfolding sound_piano contacts_of
returns c = rw (c.is_some.ensures ∙ c.contacts-contacts.ensures.within, c.is_hammer_on.ensures)
