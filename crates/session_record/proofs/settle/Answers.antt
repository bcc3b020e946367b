-- By the test whether t lies past q.
use borrow.Author.Tests.{lt-ltb, le-ltb}
use Rattle.session_record.proofs.settle.Goals as goal

pub returns-then-q-session : goal.returns-then-q-session
returns-then-q-session c = rw (lt-ltb _ _ c.if-q-session.true) c.nearest.ensures

pub returns-else-q-session : goal.returns-else-q-session
returns-else-q-session c = rw (le-ltb _ _ c.if-q-session.false)
