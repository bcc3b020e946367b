-- What is done below i and what the row as it stands gives from i on is the whole run (`Ran`); each turn leaves fewer inputs. Assumes nothing.
use Rattle.std.proofs.Common.{arith, rules}
use Rattle.exports.proofs.Runs.{ran_start, ran_turn, ran_end}
use Rattle.exports.proofs.leaves.leaf_row_run.Goals as goal

pub loop-number-init : goal.loop-number-init
loop-number-init c = ran_start _ _

pub loop-number-preserved : goal.loop-number-preserved
loop-number-preserved c =
    ran_turn c.loop-number.invariant (omega (arith, c.loop-number.invariant.size)) (search rules) c.dispersion.ensures.0 c.dispersion.ensures.1

pub returns : goal.returns
returns c = ran_end c.loop-number.invariant (omega (arith, c.loop-number.invariant.size))
