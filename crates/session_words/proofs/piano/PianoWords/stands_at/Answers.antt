-- Each part that counts is tested: `piano_tested`. Assumes nothing.
use Rattle.session_words.proofs.Pieces.{piano_tested}
use Rattle.session_words.proofs.piano.PianoWords.stands_at.Goals as goal

pub returns : goal.returns
returns c =
    let z = c.args in
    piano_tested z.words.now z.at _ _ _ _ c.all_stand-held.ensures c.all_stand-hand_damped.ensures c.stands_at-pedal.ensures c.stands_at-motion.ensures
