-- The event's three words follow the position: `follows`. Assumes nothing.
use Rattle.session_words.proofs.Pieces.{follows, numbers_joined}
use Rattle.std.proofs.Common.{arith}
use Rattle.session_words.specs.Piano.{count_word}
use Rattle.session_words.specs.Session.{event_words, timed_words}
use Rattle.session_words.specs.Laws.{timed_size_lem}
use Rattle.session_words.proofs.event.TimedEventWords.put.Goals as goal

pub returns-clause-stored : goal.returns-clause-stored
unfolding timed_words
returns-clause-stored c =
    let z = c.args in
    let stored = rw (numbers_joined c.numbers_of.result, c.numbers_of.ensures) at c.put_items.ensures.stored in
    follows z.words.now _ _ z.at _ (count_word z.self.now.position) (event_words z.self.now.event) c.put.ensures.stored stored (omega arith)

pub returns-clause-size : goal.returns-clause-size
returns-clause-size c = timed_size_lem c.args.self.now
