-- `points::strike_string` meets its contract: the lines are read before any is written, and y_s and memory lie behind them. Assumes nothing.
use mathlib.Core.Path.{ap, ◌∙◌}
use Rattle.string.specs.declared.Reads.{Reads}
use Rattle.points.specs.declared.Contact.{Contact}
use Rattle.points.specs.Points.{contact_at, struck}
use Rattle.points.proofs.strike_string.Goals as goal

pub returns : goal.returns
unfolding struck
returns c =
    let at = c.args in
    let l = c.layout-at.ensures in
    let reads = c.read-r.ensures in
    let touch = rw (l.y_s, l.memory) at c.feel-touch.ensures in
    let cells = rw (l.y_s, l.memory) at c.write.ensures in record {
      force = ap (λ (x : Contact). x.force) touch ∙ ap (λ (r : Reads). (contact_at at.c at.hammer at.s.design r at.part.now).force) reads;
      cells = rw (← reads, ← touch, ← c.inject-inject_d.ensures) cells;
    }
