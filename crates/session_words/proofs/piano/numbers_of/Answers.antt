-- Each case has the four words that `hammer_words` gives it. Assumes nothing.
use Rattle.session_words.specs.Piano.{hammer_words}
use Rattle.session_words.proofs.piano.numbers_of.Goals as goal

pub returns-in-None : goal.returns-in-None
unfolding hammer_words
returns-in-None c = rw c.in-None.is

pub returns-in-Some : goal.returns-in-Some
unfolding hammer_words
returns-in-Some c = rw (c.in-Some.is, ← c.bits_of.ensures, ← c.bits_of-in-Some.ensures)
