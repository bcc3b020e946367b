-- `rows::filter_strings` meets its contract. The loop's invariant: the strings below i are filtered, and string i starts at `at`. Assumes nothing.
use Prim.Native.Nat.{◌-◌, ◌≤◌}
use lib.ListN.{length}
use Rattle.string.specs.Table.{design_at}
use Rattle.rows.specs.Laws.{FilteredBelow}
use Rattle.rows.proofs.filter_strings.Given as goal

abbrev pub invariant-loop-next : goal.invariant-loop-next
invariant-loop-next l =
    record {
      within : l.next.i ≤ length l.designs;
      below : FilteredBelow (design_at l.designs) l.next.i l.t l.initial.part l.part l.initial.v_in l.v_in l.next.at;
    }

abbrev pub decreases-loop-next : goal.decreases-loop-next
decreases-loop-next l = length l.designs - l.next.i
