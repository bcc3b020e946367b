-- The felt's force at the compression that m leaves, as `excess` says it. Assumes nothing.
use Rattle.hammer.specs.Contact.{excess}
use Rattle.hammer.proofs.Contact.is_too_low.Goals as goal

pub returns : goal.returns
unfolding excess
returns c = rw (c.felt_force.ensures, c.positive_part.ensures)
