-- The chain from i on, started with the root before, is the whole chain (`Chained`); each turn leaves fewer numbers. Assumes nothing.
use Rattle.std.proofs.Common.{refl}
use Rattle.exports.proofs.Runs.{chained_turn, chained_end}
use Rattle.exports.proofs.leaves.leaf_root_chain.Goals as goal

pub loop-number-init : goal.loop-number-init
loop-number-init c = record { whole = refl }

pub loop-number-preserved : goal.loop-number-preserved
loop-number-preserved c = chained_turn c.loop-number.invariant c.loop-number-test.true c.root-v.ensures.value

pub returns : goal.returns
returns c = chained_end c.loop-number.invariant c.loop-number-test.false
