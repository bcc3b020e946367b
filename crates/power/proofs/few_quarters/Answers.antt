-- `power::few_quarters` meets its contract: each way out is a law of proofs/Cases.antt. Assumes nothing.
use native.Mathlib.Omega.{arith}
use Rattle.power.proofs.Cases.{quarters_four, quarters_five, quarters_six, quarters_seven}
use Rattle.power.proofs.few_quarters.Goals as goal

pub returns-then-e-le4 : goal.returns-then-e-le4
returns-then-e-le4 c = quarters_four c.args.x c.args.e c.if-e-le4.true

pub returns-then-e-eq5 : goal.returns-then-e-eq5
returns-then-e-eq5 c =
    let a = c.args in
    quarters_five a.x c.root-r.result c.root.result a.e c.if-e-eq5.true c.root-r.ensures.value c.root.ensures.value

pub returns-then-e-eq6 : goal.returns-then-e-eq6
returns-then-e-eq6 c =
    let a = c.args in
    quarters_six a.x c.root-r.result a.e c.if-e-eq6.true c.root-r.ensures.value

pub returns-else-e-eq6 : goal.returns-else-e-eq6
returns-else-e-eq6 c =
    let a = c.args in
    quarters_seven a.x c.root-r.result c.root-else-e-eq6.result a.e (omega arith) c.root-r.ensures.value c.root-else-e-eq6.ensures.value
