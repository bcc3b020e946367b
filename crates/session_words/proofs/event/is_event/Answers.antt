-- The kind decides which bound the key has. Assumes nothing.
use Rattle.std.proofs.Common.{arith, le-leb}
use Rattle.std.proofs.lemmas.Bool.{lt-leb}
use borrow.Author.Tests.{ne_eqb}
use Rattle.session_words.specs.Session.{is_event}
use Rattle.session_words.proofs.event.is_event.Goals as goal

pub returns-in-2 : goal.returns-in-2
unfolding is_event
returns-in-2 c = rw c.in-2.is

pub returns-then-kind-le3 : goal.returns-then-kind-le3
unfolding is_event
returns-then-kind-le3 c = rw (ne_eqb c.args.kind 2 (λ h. omega (arith, h)), le-leb c.args.kind 3 c.if-kind-le3.true)

pub returns-else-kind-le3 : goal.returns-else-kind-le3
unfolding is_event
returns-else-kind-le3 c = rw (ne_eqb c.args.kind 2 (λ h. omega (arith, h)), lt-leb c.args.kind 3 c.if-kind-le3.false)
