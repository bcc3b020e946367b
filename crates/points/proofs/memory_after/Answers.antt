-- `points::memory_after` meets its contract: the two cases of tau. Assumes nothing.
use Rattle.points.specs.Points.{remembered}
use Rattle.points.proofs.memory_after.Goals as goal

pub returns-then-hammer : goal.returns-then-hammer
unfolding remembered
returns-then-hammer c = rw (c.if-hammer.true, c.min.ensures)

pub returns-else-hammer : goal.returns-else-hammer
unfolding remembered
returns-else-hammer c = rw c.if-hammer.false
