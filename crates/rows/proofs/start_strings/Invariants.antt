-- `rows::start_strings` meets its contract. The loop's invariant: l strings have started, and string i + l starts at `at`. Assumes nothing.
use mathlib.Core.Path.{◌≡◌}
use Prim.Native.Nat.{◌+◌}
use Rattle.string.specs.Table.{design_at}
use Rattle.rows.specs.Rows.{string_start, Started}
use Rattle.rows.proofs.start_strings.Given as goal

abbrev pub invariant-loop-l : goal.invariant-loop-l
invariant-loop-l g l =
    record {
      start : l.at ≡ string_start (design_at l.designs) (l.here.i + l.l);
      started : Started (design_at l.designs) l.here.i l.l l.t l.initial.part l.part l.v;
    }
