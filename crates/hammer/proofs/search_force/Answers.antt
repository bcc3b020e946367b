-- One of the first two tests answers as `force_of` does, and where neither does, fifty halvings by the felt's own test. Assumes nothing.
use Rattle.hammer.proofs.Halvings.{no_approach, no_push, pushing}
use Rattle.hammer.proofs.search_force.Goals as goal

pub returns-then-c0 : goal.returns-then-c0
returns-then-c0 c = let a = c.args in no_approach a.hammer a.eps_r a.c0 a.c1 c.if-c0.true

pub returns-then-f0 : goal.returns-then-f0
returns-then-f0 c =
    let a = c.args in
    no_push a.hammer a.eps_r a.c0 a.c1 c.felt_force-f0.result c.if-c0.false c.felt_force-f0.ensures c.if-f0.true

pub returns-else-f0 : goal.returns-else-f0
returns-else-f0 c =
    let a = c.args in
    pushing a.hammer a.eps_r a.c0 a.c1 c.felt_force-f0.result _ c.if-c0.false c.felt_force-f0.ensures c.if-f0.false c.search.ensures
