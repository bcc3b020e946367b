-- A word follows the hammer's four: `follows`. Assumes nothing.
use Rattle.session_words.proofs.Pieces.{follows}
use Rattle.std.proofs.Common.{◌∙◌, length-append, arith, []}
use Rattle.session_words.specs.Piano.{hammer_words, float_word, motion_words}
use Rattle.session_words.proofs.piano.MotionWords.put.Goals as goal

pub returns-clause-stored : goal.returns-clause-stored
unfolding motion_words
returns-clause-stored c =
    let z = c.args in
    follows z.words.now _ _ z.at _ (hammer_words z.self.now.hammer) (float_word z.self.now.peak_force) c.put.ensures.stored c.put-2.ensures.stored
    (omega (arith, c.put.ensures.size))

pub returns-clause-size : goal.returns-clause-size
unfolding motion_words
returns-clause-size c =
    let m = c.args.self.now in
    length-append (hammer_words m.hammer) (float_word m.peak_force) ∙ omega (arith, c.put.ensures.size)
