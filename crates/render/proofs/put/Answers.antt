-- `render::put` meets its contract: a store past the end is none, as in `set`. Assumes nothing.
use mathlib.Core.Path.{sym}
use lib.Seq.{set_out}
use Rattle.render.proofs.put.Goals as goal

pub returns-else-i-cells : goal.returns-else-i-cells
returns-else-i-cells c = let at = c.args in sym (set_out at.cells.now at.i at.x c.if-i-cells.false)
