-- The four words are stored. Assumes nothing.
use Rattle.session_words.proofs.Pieces.{numbers_joined}
use Rattle.session_words.proofs.piano.OptionFlightWords.put.Goals as goal

pub returns-clause-stored : goal.returns-clause-stored
returns-clause-stored c = rw (numbers_joined c.numbers_of.result, c.numbers_of.ensures) at c.put_items.ensures.stored
