-- `strings::first_indices` meets its contract. The loop's invariant: the strings below i have their indices. Assumes nothing.
use mathlib.Core.Path.{◌≡◌}
use Prim.Native.Nat.{ℕ, ◌<◌}
use lib.ListN.{length}
use Rattle.string.specs.String.{IndicesAt}
use Rattle.string.specs.Table.{design_at, indices_in}
use Rattle.strings.proofs.first_indices.Given as goal

abbrev pub invariant-loop-i : goal.invariant-loop-i
invariant-loop-i l =
    record {
      room : length l.indices ≡ 32;
      each : (k : ℕ) → k < l.i → IndicesAt (design_at l.designs k) l.t (indices_in l.indices k);
    }
