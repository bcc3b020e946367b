-- A cue that is not kept passes; one that is, by its piano. Assumes nothing.
use Rattle.session_words.proofs.Pieces.{cue_unkept, cue_kept, cue_unknown}
use Rattle.std.proofs.Common.{arith}
use Rattle.session_words.proofs.cue.CueWords.stands_at.Goals as goal

pub returns-in-0 : goal.returns-in-0
returns-in-0 c = cue_unkept c.args.words.now c.args.at c.in-0.is

pub returns-in-1 : goal.returns-in-1
returns-in-1 c = cue_kept c.args.words.now c.args.at c.in-1.is _ c.stands_at.ensures

pub returns-in_default : goal.returns-in_default
returns-in_default c = cue_unknown c.args.words.now c.args.at (λ h. omega (arith, h)) (λ h. omega (arith, h))
