-- `rows::next_stage` meets its contract. The loop's invariant: l strings have passed stage s, and the others' values are as they were. Assumes nothing.
use mathlib.Core.Path.{◌≡◌}
use Prim.Native.Nat.{ℕ, ◌≤◌}
use lib.ListN.{get_or}
use lib.Ieee.{nan}
use Rattle.string.specs.Table.{design_at}
use Rattle.rows.specs.Rows.{Staged}
use Rattle.rows.proofs.next_stage.Given as goal

abbrev pub invariant-loop-l : goal.invariant-loop-l
invariant-loop-l g l =
    record {
      passed : Staged (design_at l.designs) l.fn.here.i l.l l.s l.initial.v l.v l.initial.part l.part;
      rest : (j : ℕ) → l.l ≤ j → get_or l.v j nan ≡ get_or l.initial.v j nan;
    }
