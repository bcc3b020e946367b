-- Four words read, then the event by its numbers: `timed_read`. Assumes nothing.
use Rattle.session_words.proofs.Pieces.{timed_read}
use Rattle.session_words.proofs.event.TimedEventWords.read.Goals as goal

pub returns : goal.returns
returns c =
    let z = c.args in
    timed_read z.words.now z.at _ _ _ _ _ c.read.ensures c.read-kind.ensures c.read-key.ensures c.read-velocity.ensures c.event_of.ensures
