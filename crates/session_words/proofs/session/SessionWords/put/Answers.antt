-- Each store follows the one before it, so the runs are one: `session_stores`. Assumes nothing.
use Rattle.session_words.proofs.Pieces.{session_stores, session_size_is}
use Rattle.std.proofs.Common.{◌≡◌, length, arith}
use Rattle.session_words.proofs.session.SessionWords.put.Goals as goal

pub returns-clause-stored : goal.returns-clause-stored
returns-clause-stored c =
    let z = c.args in
    session_stores z.self.now (omega (arith, c.put_items.ensures.size)) (omega (arith, c.put_items-2.ensures.size)) z.words.now _ _ _ _ _ z.at
    c.put.ensures.stored c.put-2.ensures.stored c.put_items.ensures.stored c.put_items-2.ensures.stored c.put-3.ensures.stored

pub returns-clause-size : goal.returns-clause-size
returns-clause-size c =
    session_size_is c.args.self.now (omega (arith, c.put_items.ensures.size)) (omega (arith, c.put_items-2.ensures.size)) c.put-3.ensures.size
