-- `keys::sum_keys` meets its contract. The loop's invariant is `Folded` of crate cells: what is left to do gives the whole. Assumes nothing.
use Prim.Native.Nat.{ℕ}
use Rattle.cells.specs.Numbered.{Folded}
use Rattle.string.specs.Table.{design_at}
use mathlib.Core.List.{List}
use lib.ListN.{length, get_or, set}
use lib.Ieee.{Float, nan, binary64, add}
use Rattle.string.specs.declared.StringDesign.{StringDesign}
use Rattle.keys.proofs.sum_keys.Given as goal

abbrev pub turn : List Float → ℕ → StringDesign → List Float → List Float
turn v i d s = set s d.key (add binary64 (get_or s d.key nan) (get_or v i nan))

abbrev pub invariant-loop-i : goal.invariant-loop-i
invariant-loop-i l = Folded (design_at l.designs) (turn l.v_in) (length l.designs) l.initial.sums l.sums l.i
