-- Each part's words follow those before it, so the runs are one: `piano_stores`. Assumes nothing.
use Rattle.session_words.proofs.Pieces.{piano_stores, piano_size_is}
use Rattle.std.proofs.Common.{◌≡◌, length, arith}
use Rattle.session_words.proofs.piano.PianoWords.put.Goals as goal

pub returns-clause-stored : goal.returns-clause-stored
returns-clause-stored c =
    let z = c.args in
    let p = z.self.now in
    piano_stores p (omega (arith, c.put_items.ensures.size)) (omega (arith, c.put_items-2.ensures.size)) (omega (arith, c.put_items-3.ensures.size))
    (omega (arith, c.put_items-4.ensures.size)) z.words.now _ _ _ _ _ _ z.at c.put_items.ensures.stored c.put_items-2.ensures.stored
    c.put_items-3.ensures.stored c.put_items-4.ensures.stored c.put.ensures.stored c.put-2.ensures.stored

pub returns-clause-size : goal.returns-clause-size
returns-clause-size c =
    piano_size_is c.args.self.now (omega (arith, c.put_items.ensures.size)) (omega (arith, c.put_items-2.ensures.size))
    (omega (arith, c.put_items-3.ensures.size)) (omega (arith, c.put_items-4.ensures.size)) c.put-2.ensures.size
