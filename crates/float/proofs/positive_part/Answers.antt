-- `float::positive_part` meets its contract: the test is the definition's. Assumes nothing.
use Rattle.float.specs.Float.{positive_part}
use Rattle.float.proofs.positive_part.Goals as goal

pub returns-then-x : goal.returns-then-x
unfolding positive_part
returns-then-x c = rw c.if-x.true

pub returns-else-x : goal.returns-else-x
unfolding positive_part
returns-else-x c = rw c.if-x.false
