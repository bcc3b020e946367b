-- What is done below i and what is to do from i is the whole sweep (`Swept`); each turn leaves fewer numbers. Assumes nothing.
use Rattle.std.proofs.Common.{arith}
use Rattle.exports.proofs.Runs.{swept_start, swept_turn, swept_end}
use Rattle.exports.proofs.leaves.leaf_root_sweep.Goals as goal

pub loop-number-init : goal.loop-number-init
loop-number-init c = swept_start _

pub loop-number-preserved : goal.loop-number-preserved
loop-number-preserved c = swept_turn c.loop-number.invariant (omega (arith, c.loop-number.invariant.size)) c.root.ensures.value

pub returns : goal.returns
returns c = swept_end c.loop-number.invariant (omega (arith, c.loop-number.invariant.size))
