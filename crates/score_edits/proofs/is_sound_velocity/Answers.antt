-- A strike's two comparisons are the definition's; no other event has a velocity.
use lib.Ieee.{of_bits, of_int, neg}
use Rattle.score_edits.specs.Edits.{sound_velocity}
use Rattle.score_edits.proofs.Walk.{no_strike}
use Rattle.score_edits.proofs.is_sound_velocity.Goals as goal

pub returns-in-NoteOn : goal.returns-in-NoteOn
unfolding sound_velocity of_bits of_int neg
returns-in-NoteOn c = rw c.in-NoteOn.is

pub returns-in_default : goal.returns-in_default
returns-in_default c = no_strike c.args.event c.in_default.not-NoteOn
