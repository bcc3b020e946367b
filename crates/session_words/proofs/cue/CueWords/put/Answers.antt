-- The piano's words follow two words: `follows`. Assumes nothing.
use Rattle.session_words.proofs.Pieces.{follows}
use Rattle.std.proofs.Common.{ap, ℕ, suc, ◌++◌, arith}
use Rattle.session_words.specs.Piano.{flag_word, count_word, piano_words}
use Rattle.session_words.specs.Session.{cue_words}
use Rattle.session_words.proofs.cue.CueWords.put.Goals as goal

pub returns-clause-stored : goal.returns-clause-stored
unfolding cue_words
returns-clause-stored c =
    let z = c.args in
    let cue = z.self.now in
    let rest = follows _ _ _ _ _ (count_word cue.position) (piano_words cue.piano) c.put-2.ensures.stored c.put-3.ensures.stored (omega arith) in
    follows z.words.now _ _ z.at _ (flag_word cue.kept) (count_word cue.position ++ piano_words cue.piano) c.put.ensures.stored rest (omega arith)

pub returns-clause-size : goal.returns-clause-size
unfolding cue_words
returns-clause-size c = ap (λ (n : ℕ). suc (suc n)) c.put-3.ensures.size
