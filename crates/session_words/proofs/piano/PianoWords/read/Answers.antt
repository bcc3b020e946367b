-- Each part from its own place: `piano_read`. Assumes nothing.
use Rattle.session_words.proofs.Pieces.{piano_read}
use Rattle.session_words.proofs.piano.PianoWords.read.Goals as goal

pub returns : goal.returns
returns c =
    let z = c.args in
    piano_read z.words.now z.at _ _ _ _ _ _ c.items_at.ensures c.items_at-2.ensures c.items_at-3.ensures c.items_at-4.ensures c.read.ensures c.read-2.ensures
