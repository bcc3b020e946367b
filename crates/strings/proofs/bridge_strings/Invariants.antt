-- `strings::bridge_strings` meets its contract. The loop's invariant is `WalkAt` of specs/Walk: what is left to do gives the whole. Assumes nothing.
use Rattle.strings.specs.Strings.{bridge_one, bridge_force_one}
use Rattle.strings.specs.Walk.{WalkAt}
use Rattle.strings.proofs.bridge_strings.Given as goal

abbrev pub invariant-loop-i : goal.invariant-loop-i
invariant-loop-i l =
    WalkAt (bridge_one l.v_b l.v_in l.t) (bridge_force_one l.z l.v_b l.v_in) l.designs
    l.initial.part l.initial.f_bridge l.part l.f_bridge l.at l.i
