-- `strings::strike_strings` meets its contract. The loop's invariant is `WalkAt` of specs/Walk: what is left to do gives the whole. Assumes nothing.
use mathlib.Core.Path.{ap, ◌∙◌}
use lib.Ieee.{Float}
use Rattle.points.specs.Points.{summed}
use Rattle.string.specs.Table.{design_at}
use Rattle.strings.specs.Walk.{at_turn, at_end}
use Rattle.strings.specs.Laws.{turned_keeps}
use Rattle.strings.proofs.strike_strings.Goals as goal

pub loop-i-preserved : goal.loop-i-preserved
loop-i-preserved c =
    let at = c.args in
    let i = c.loop-i.i in
    let sum = c.with-sum.ensures ∙ ap (λ (y : Float). summed c.loop-i.sum y) c.strike_string-f.ensures.force in
    at_turn c.loop-i.invariant c.loop-i-test.true c.layout.result.size c.strike_string-f.new.part c.with-sum.result c.layout.ensures.size
    (turned_keeps at.c at.hammer at.damper_r.now at.t i (design_at at.designs.now i)) c.strike_string-f.ensures.cells sum

pub returns : goal.returns
returns c = at_end c.loop-i.invariant c.loop-i-test.false
