-- Length and words decide: `session_there`, `session_unknown`, `session_short`. Assumes nothing.
use Rattle.std.proofs.Common.{sym, ◌∙◌}
use Rattle.session_words.proofs.Pieces.{session_there, session_unknown, session_short}
use Rattle.session_words.proofs.session_at.Goals.{else-words-eq-LENGTH-via-then-words-eq-LENGTH+else-stands_at, else-words-eq-LENGTH-via-else-words-eq-LENGTH}
use Rattle.session_words.proofs.session_at.Goals as goal

pub returns-then-stands_at : goal.returns-then-stands_at
returns-then-stands_at c =
    session_there c.args.words.now _ c.if-words-eq-LENGTH.true (sym c.stands_at.ensures ∙ c.if-stands_at.true) c.read.ensures

pub returns-else-words-eq-LENGTH : goal.returns-else-words-eq-LENGTH
returns-else-words-eq-LENGTH c =
    elim c.else-words-eq-LENGTH.branch [
      | else-words-eq-LENGTH-via-then-words-eq-LENGTH+else-stands_at w ↦
          session_unknown c.args.words.now (sym w.stands_at.ensures ∙ w.if-stands_at.false)
      | else-words-eq-LENGTH-via-else-words-eq-LENGTH w ↦ session_short c.args.words.now w.if-words-eq-LENGTH.false
    ]
