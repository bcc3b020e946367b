-- Each part from its own place: `session_read`. Assumes nothing.
use Rattle.session_words.proofs.Pieces.{session_read}
use Rattle.session_words.proofs.session.SessionWords.read.Goals as goal

pub returns : goal.returns
returns c =
    let z = c.args in
    session_read z.words.now z.at _ _ _ _ _ c.read.ensures c.read-2.ensures c.items_at.ensures c.items_at-2.ensures c.read-3.ensures
