-- The chain from i on, started with the root before, is the whole chain (`Chained`); each turn leaves fewer numbers. Assumes nothing.
use Rattle.exports.proofs.Runs.{Chained}
use Rattle.exports.proofs.leaves.leaf_root_chain.Given as goal

abbrev pub invariant-loop-number : goal.invariant-loop-number
invariant-loop-number l = Chained l.x l.v l.number-index l.initial.v
