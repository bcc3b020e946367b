-- The invariant: `rest` is the first keys, and whether those are apart decides for all.
use Rattle.std.proofs.Common.{◌≡◌, length, take, ◌≤◌}
use Rattle.instrument.specs.Valid.{keys_apart}
use Rattle.instrument.proofs.keys_apart.Given as goal

abbrev pub invariant-loop-last : goal.invariant-loop-last
invariant-loop-last l =
    (length l.rest ≤ length l.fn.keys)
    × (l.rest ≡ take (length l.rest) l.fn.keys)
    × (keys_apart l.fn.keys (length l.fn.keys) ≡ keys_apart l.fn.keys (length l.rest))

abbrev pub decreases-loop-last : goal.decreases-loop-last
decreases-loop-last l = length l.rest
