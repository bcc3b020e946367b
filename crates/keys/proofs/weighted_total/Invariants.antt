-- `keys::weighted_total` meets its contract. The loop's invariant is `Folded` of crate cells: what is left to do gives the whole. Assumes nothing.
use Rattle.float.specs.Float.{zero as +0}
use Prim.Native.Nat.{ℕ}
use Rattle.cells.specs.Numbered.{Folded}
use Rattle.keys.specs.Keys.{constants_at}
use mathlib.Core.List.{List}
use lib.ListN.{length, get_or}
use lib.Ieee.{Float, nan, binary64, add, mul}
use Rattle.keys.specs.declared.KeyConstants.{KeyConstants}
use Rattle.keys.proofs.weighted_total.Given as goal

abbrev pub turn : List Float → ℕ → KeyConstants → Float → Float
turn sums k key x = add binary64 x (mul binary64 key.weight (get_or sums k nan))

abbrev pub invariant-loop-k : goal.invariant-loop-k
invariant-loop-k l = Folded (constants_at l.keys) (turn l.sums) (length l.keys) +0 l.total l.k
