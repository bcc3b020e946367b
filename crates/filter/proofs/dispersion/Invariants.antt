-- `filter::dispersion` meets its contract. The loop's invariant: what is left of the row from cell j on gives the output and the cells of the whole.
-- Assumes nothing.
use Prim.Native.Nat.{◌-◌}
use lib.ListN.{length}
use Rattle.filter.proofs.Row.{StagesPassed}
use Rattle.filter.proofs.dispersion.Given as goal

abbrev pub invariant-loop-j : goal.invariant-loop-j
invariant-loop-j l = StagesPassed l.a l.x l.initial.cells l.cells l.v l.j

abbrev pub decreases-loop-j : goal.decreases-loop-j
decreases-loop-j l = length l.initial.cells - l.j
