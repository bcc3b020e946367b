-- What is done below i and what is to do from i is the whole sweep (`Swept`); each turn leaves fewer numbers. Assumes nothing.
use Rattle.root.specs.Root.{root_of}
use Rattle.exports.proofs.Runs.{Swept}
use Rattle.exports.proofs.leaves.leaf_root_sweep.Given as goal

abbrev pub invariant-loop-number : goal.invariant-loop-number
invariant-loop-number l = Swept root_of l.initial.x l.x l.number-index
