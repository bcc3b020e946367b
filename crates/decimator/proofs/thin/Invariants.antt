-- `decimator::thin` meets its contract. The invariant: the places before i hold the filtered samples. Assumes nothing.
use mathlib.Core.Path.{◌≡◌}
use Prim.Native.Nat.{◌-◌, ◌*◌}
use lib.ListN.{length}
use Rattle.decimator.specs.Decimate.{filtered_at}
use Rattle.decimator.proofs.Cases.{Stored}
use Rattle.decimator.proofs.thin.Given as goal

abbrev pub invariant-loop-i : goal.invariant-loop-i
invariant-loop-i l = (l.i-end ≡ length l.initial.out) × Stored (λ j. filtered_at l.x l.taps (j * l.factor)) l.initial.out l.out l.i

abbrev pub decreases-loop-i : goal.decreases-loop-i
decreases-loop-i l = l.i-end - l.i
