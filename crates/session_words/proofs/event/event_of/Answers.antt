-- Each kind gives its own case. Assumes nothing.
use Rattle.std.proofs.Common.{arith}
use borrow.Author.Tests.{ne_eqb}
use Rattle.session_words.specs.Session.{event_of}
use Rattle.session_words.proofs.event.event_of.Goals as goal

pub returns-in-0 : goal.returns-in-0
unfolding event_of
returns-in-0 c = rw c.in-0.is

pub returns-in-1 : goal.returns-in-1
unfolding event_of
returns-in-1 c = rw c.in-1.is

pub returns-in-2 : goal.returns-in-2
unfolding event_of
returns-in-2 c = rw c.in-2.is

pub returns-in_default : goal.returns-in_default
unfolding event_of
returns-in_default c =
    let kind = c.args.kind in
    rw (ne_eqb kind 0 (λ h. omega (arith, h)), ne_eqb kind 1 (λ h. omega (arith, h)), ne_eqb kind 2 (λ h. omega (arith, h)))
