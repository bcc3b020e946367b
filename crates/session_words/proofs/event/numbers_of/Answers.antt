-- Each case has the three words that `event_words` gives it. Assumes nothing.
use Rattle.session_words.specs.Session.{event_words}
use Rattle.session_words.proofs.Pieces.{byte_bit}
use Rattle.session_words.proofs.event.numbers_of.Goals as goal

pub returns-in-NoteOn : goal.returns-in-NoteOn
unfolding event_words
returns-in-NoteOn c = rw (c.in-NoteOn.is, ← c.bits_of.ensures, c.from.ensures)

pub returns-in-NoteOff : goal.returns-in-NoteOff
unfolding event_words
returns-in-NoteOff c = rw (c.in-NoteOff.is, c.from-in-NoteOff.ensures)

pub returns-in-Pedal : goal.returns-in-Pedal
unfolding event_words
returns-in-Pedal c = rw (c.in-Pedal.is, c.from-in-Pedal.ensures, byte_bit c.in-Pedal.down)

pub returns-in-HandDamp : goal.returns-in-HandDamp
unfolding event_words
returns-in-HandDamp c = rw (c.in-HandDamp.is, c.from-in-HandDamp.ensures)
