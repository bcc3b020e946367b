-- Each of the three numbers after p by its own bounds on d. Assumes nothing.
use Rattle.root.proofs.Quick.{after_1, after_2, after_3}
use Rattle.root.proofs.Radicand.rounded.Goals as goal

pub returns-then-d-p-2 : goal.returns-then-d-p-2
returns-then-d-p-2 c = after_1 _ _ _ c.in-Some.ensures.is c.if-p-d.true c.if-d-p-2.true

pub returns-then-d-p-3 : goal.returns-then-d-p-3
returns-then-d-p-3 c = after_2 _ _ _ c.in-Some.ensures.is c.if-d-p-2.false c.if-d-p-3.true

pub returns-else-d-p-3 : goal.returns-else-d-p-3
returns-else-d-p-3 c = after_3 _ _ _ c.in-Some.ensures.is c.if-d-p-3.false c.if-d-p.true
