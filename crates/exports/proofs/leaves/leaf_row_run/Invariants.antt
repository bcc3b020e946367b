-- What is done below i and what the row as it stands gives from i on is the whole run (`Ran`); each turn leaves fewer inputs. Assumes nothing.
use Rattle.exports.proofs.Runs.{Ran}
use Rattle.exports.proofs.leaves.leaf_row_run.Given as goal

abbrev pub invariant-loop-number : goal.invariant-loop-number
invariant-loop-number l = Ran l.a l.initial.cells l.initial.block l.cells l.block l.number-index
