-- Two words read, then the piano: `cue_read`. Assumes nothing.
use Rattle.session_words.proofs.Pieces.{cue_read}
use Rattle.session_words.proofs.cue.CueWords.read.Goals as goal

pub returns : goal.returns
returns c = cue_read c.args.words.now c.args.at _ _ _ c.read.ensures c.read-2.ensures c.read-3.ensures
