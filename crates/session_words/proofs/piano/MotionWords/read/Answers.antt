-- The hammer and a word, each from its own place: `motion_read`. Assumes nothing.
use Rattle.session_words.proofs.Pieces.{motion_read}
use Rattle.session_words.proofs.piano.MotionWords.read.Goals as goal

pub returns : goal.returns
returns c = motion_read c.args.words.now c.args.at _ _ c.read.ensures c.read-2.ensures
