-- `strings::bridge_strings` meets its contract. The loop's invariant is `WalkAt` of specs/Walk: what is left to do gives the whole. Assumes nothing.
use mathlib.Core.Path.{refl}
use mathlib.Core.List.{[]}
use Rattle.string.specs.Table.{design_at}
use Rattle.strings.specs.Strings.{bridge_force_one}
use Rattle.strings.specs.Walk.{at_turn, at_end}
use Rattle.strings.specs.Laws.{bridge_keeps}
use Rattle.strings.proofs.bridge_strings.Goals as goal

pub loop-i-preserved : goal.loop-i-preserved
loop-i-preserved c =
    let at = c.args in
    let i = c.loop-i.i in
    let d = design_at at.designs.now i in
    let force = bridge_force_one at.z at.v_b.now at.v_in.now i d [] c.loop-i.f_bridge in
    at_turn c.loop-i.invariant c.loop-i-test.true c.layout.result.size c.send_back.new.part force c.layout.ensures.size
    (bridge_keeps at.v_b.now at.v_in.now at.t i d) c.send_back.ensures refl

pub returns : goal.returns
returns c = at_end c.loop-i.invariant c.loop-i-test.false
