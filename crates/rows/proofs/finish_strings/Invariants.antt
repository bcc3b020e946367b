-- `rows::finish_strings` meets its contract. The loop's invariant: l strings are finished, and string i + l starts at `at`. Assumes nothing.
use Rattle.string.specs.Table.{design_at}
use Rattle.rows.specs.Rows.{Finished}
use Rattle.rows.proofs.finish_strings.Given as goal

abbrev pub invariant-loop-l : goal.invariant-loop-l
invariant-loop-l g l =
    Finished (design_at l.designs) l.here.i l.l l.k l.v l.initial.part l.part l.initial.v_in l.v_in l.at
