-- `keys::bridge_speeds` meets its contract. The loop's invariant is `Folded` of crate cells: what is left to do gives the whole. Assumes nothing.
use Prim.Native.Nat.{ℕ}
use Rattle.cells.specs.Numbered.{Folded}
use Rattle.keys.specs.Keys.{constants_at, speed_of}
use mathlib.Core.List.{List}
use lib.ListN.{length, get_or, set}
use lib.Ieee.{Float, nan}
use Rattle.keys.specs.declared.KeyConstants.{KeyConstants}
use Rattle.keys.proofs.bridge_speeds.Given as goal

abbrev pub turn : Float → Float → ℕ → KeyConstants → List Float → List Float
turn yz total k key a = set a k (speed_of yz total key (get_or a k nan))

abbrev pub invariant-loop-k : goal.invariant-loop-k
invariant-loop-k l = Folded (constants_at l.keys) (turn l.yz l.total) (length l.keys) l.initial.sums l.sums l.k
