-- `sample_constants::owner` meets its contract. The loop's invariant: the search from key k on gives what the whole search gives. Assumes nothing.
use Rattle.std.proofs.Common.{ℕ, length}
use Rattle.instrument.specs.Valid.{key_at}
use Rattle.sample_constants.proofs.KeySearch.{Passing}
use Rattle.sample_constants.proofs.owner.Given as goal

abbrev pub invariant-loop-k : goal.invariant-loop-k
invariant-loop-k l = Passing (λ (i : ℕ). (key_at l.keys i).strings) (length l.keys) l.string l.left l.k
