-- `rows::rows_of` meets its contract. The loop's invariant: the rows of l strings are laid, and string i + l starts at `at`. Assumes nothing.
use mathlib.Core.Path.{◌≡◌}
use Prim.Native.Nat.{◌+◌}
use lib.ListN.{length}
use Rattle.string.specs.Table.{design_at}
use Rattle.rows.specs.Rows.{Laid, string_start}
use Rattle.rows.proofs.rows_of.Given as goal

abbrev pub invariant-loop-l : goal.invariant-loop-l
invariant-loop-l g l =
    record {
      start : l.at ≡ string_start (design_at l.designs) (l.here.i + l.l);
      laid : Laid (design_at l.designs) l.here.i l.l (record { starts = l.starts; ap_a = l.ap_a; stages = l.stages });
      starts_len : length l.starts ≡ 4;
      ap_a_len : length l.ap_a ≡ 4;
    }
