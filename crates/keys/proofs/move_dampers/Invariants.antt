-- `keys::move_dampers` meets its contract. The loop's invariant is `Folded` of crate cells: what is left to do gives the whole. Assumes nothing.
use Prim.Native.Nat.{ℕ}
use Rattle.cells.specs.Numbered.{Folded}
use Rattle.keys.specs.Keys.{constants_at, damped_of}
use mathlib.Core.List.{List}
use mathlib.Core.Bool.{Bool, false}
use lib.ListN.{length, get_or, set}
use lib.Ieee.{Float, nan}
use Rattle.keys.specs.declared.KeyConstants.{KeyConstants}
use Rattle.keys.proofs.move_dampers.Given as goal

abbrev pub turn : List Bool → ℕ → KeyConstants → List Float → List Float
turn down k key r = set r k (damped_of key (get_or down k false) (get_or r k nan))

abbrev pub invariant-loop-k : goal.invariant-loop-k
invariant-loop-k l = Folded (constants_at l.keys) (turn l.down) (length l.keys) l.initial.damper_r l.damper_r l.k
