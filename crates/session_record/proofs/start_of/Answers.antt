-- The nearest kept cue, or t where it lies nearer: the two ways out, each by its law.
use Rattle.std.proofs.Common.{rules, tests, ◌≡◌, max}
use Rattle.session_record.proofs.Tests.{start_here, start_there}
use Rattle.session_record.proofs.start_of.Goals as goal

pub returns-then-session-p : goal.returns-then-session-p
returns-then-session-p c =
    let most : c.max.result ≡ max c.nearest-near.result c.args.session.t = search (rules, tests) in
    start_here _ _ _ _ c.nearest-near.ensures c.if-session-p.true _ most

pub returns-else-session-p : goal.returns-else-session-p
returns-else-session-p c = start_there _ _ _ _ c.nearest-near.ensures c.if-session-p.false
