-- The length alone decides. Assumes nothing.
use Rattle.std.proofs.Common.{length, eq-eqb}
use borrow.Author.Tests.{ne_eqb}
use Rattle.session_words.specs.Layout.{session_size}
use Rattle.session_words.specs.Session.{session_from}
use Rattle.session_words.proofs.session_from.Goals as goal

pub returns-then-words-eq-LENGTH : goal.returns-then-words-eq-LENGTH
unfolding session_from
returns-then-words-eq-LENGTH c = rw (eq-eqb (length c.args.words.now) session_size c.if-words-eq-LENGTH.true) c.read.ensures

pub returns-else-words-eq-LENGTH : goal.returns-else-words-eq-LENGTH
unfolding session_from
returns-else-words-eq-LENGTH c = rw (ne_eqb (length c.args.words.now) session_size c.if-words-eq-LENGTH.false) c.read-else-words-eq-LENGTH.ensures
