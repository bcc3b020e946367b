-- What the exported leaves give where it is more than one value of one leaf's definition. Definitions only: assumes nothing.
use Rattle.std.specs.Prelude.{◌≡◌, ℕ, List, [], ◌∷◌, Float}
use Rattle.std.specs.Float.{binary64}
use Rattle.std.specs.Float.Ieee.{add, sub}
use Rattle.float.specs.Float.{one, zero as +0}
use Rattle.root.specs.Root.{root_of}
use Rattle.cuts.specs.declared.Cuts.{Cuts}
use Rattle.hammer.specs.declared.Hammer.{Hammer}
use Rattle.filter.specs.declared.LoopFilter.{LoopFilter}
use Rattle.filter.specs.Filter.{row_out, row_cells, loop_out, loop_cells}

-- each root waits for the one before, v: v - v is +0 where v is finite
unfoldable pub root_chain : Float → List Float → Float
root_chain v [] = v
root_chain v (x ∷ s) = root_chain (root_of (add binary64 x (sub binary64 v v))) s

-- a hammer of this stiffness and exponent; its other numbers do not enter the force
abbrev pub felt : Float → ℕ → Hammer
felt stiffness exponent = record { stiffness = stiffness; exponent = exponent; eps = +0; mass = one; tau = +0 }

-- the row run over a block: its outputs, and its cells afterwards
unfoldable pub row_outs : Float → List Float → List Float → List Float
row_outs a cells [] = []
row_outs a cells (x ∷ s) = row_out a cells x ∷ row_outs a (row_cells a cells x) s

unfoldable pub cells_after : Float → List Float → List Float → List Float
cells_after a cells [] = cells
cells_after a cells (x ∷ s) = cells_after a (row_cells a cells x) s

-- a string's three lengths, in their order from the nut
abbrev pub lengths_of : Cuts → List ℕ
lengths_of cuts = cuts.na ∷ (cuts.nb ∷ (cuts.nc ∷ []))

-- the loop filter's output r and its cells afterwards
pub record LoopFiltered (filter : LoopFilter) (cells : List Float) (x r : Float) (after : List Float) : Type 0 where
  pub output : r ≡ loop_out filter cells x
  pub written : after ≡ loop_cells filter cells x
