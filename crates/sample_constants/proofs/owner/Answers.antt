-- `sample_constants::owner` meets its contract. The loop's invariant: the search from key k on gives what the whole search gives. Assumes nothing.
use Rattle.std.proofs.Common.{ℕ, length}
use Rattle.instrument.specs.Valid.{key_at}
use Rattle.sample_constants.proofs.KeySearch.{passing_found, passing_turn, passing_end}
use Rattle.sample_constants.proofs.owner.Goals as goal

pub returns-then-left-key : goal.returns-then-left-key
returns-then-left-key c =
    let at = c.args in
    passing_found (λ (i : ℕ). (key_at at.keys.now i).strings) (length at.keys.now) at.string c.loop-k.left c.loop-k.k c.loop-k.invariant c.loop-k-test.true
    c.if-left-key.true

pub loop-k-preserved : goal.loop-k-preserved
loop-k-preserved c =
    let at = c.args in
    passing_turn (λ (i : ℕ). (key_at at.keys.now i).strings) (length at.keys.now) at.string c.loop-k.left c.loop-k.k c.loop-k.invariant c.loop-k-test.true
    c.if-left-key.false

pub returns : goal.returns
returns c =
    let at = c.args in
    passing_end (λ (i : ℕ). (key_at at.keys.now i).strings) (length at.keys.now) at.string c.loop-k.left c.loop-k.k c.loop-k.invariant c.loop-k-test.false
