-- `points::touch` meets its contract: the steps of the definition, in its order. Assumes nothing.
use Rattle.points.specs.Points.{touched}
use Rattle.points.proofs.touch.Goals as goal

pub returns : goal.returns
unfolding touched
returns c = rw (c.memory_after-after.ensures, c.power-xp.ensures, c.positive_part.ensures, c.contact_force-force.ensures.0)
