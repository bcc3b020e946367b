-- `strings::strike_strings` meets its contract. The loop's invariant is `WalkAt` of specs/Walk: what is left to do gives the whole. Assumes nothing.
use Rattle.strings.specs.Strings.{turned_one, force_one}
use Rattle.strings.specs.Walk.{WalkAt}
use Rattle.strings.proofs.strike_strings.Given as goal

abbrev pub invariant-loop-i : goal.invariant-loop-i
invariant-loop-i l =
    WalkAt (turned_one l.c l.hammer l.damper_r l.t) (force_one l.c l.hammer l.t) l.designs
    l.initial.part l.initial.sum l.part l.sum l.at l.i
