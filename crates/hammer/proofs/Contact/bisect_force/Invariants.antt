-- With some halvings done, the ones left from lo and hi give what all fifty give from 0 and top. Assumes nothing.
use mathlib.Core.Path.{◌≡◌}
use Prim.Native.Nat.{◌-◌, ◌≤◌}
use Rattle.float.specs.Float.{zero as +0}
use Rattle.hammer.specs.Contact.{bisect}
use Rattle.hammer.specs.Guess.{too_low}
use Rattle.hammer.proofs.Contact.bisect_force.Given as goal

abbrev pub invariant-loop : goal.invariant-loop
invariant-loop l =
    let low = too_low l.self.hammer l.self.eps_r l.self.c0 l.self.c1 in
    (l.counter ≤ 50) × (bisect low (50 - l.counter) l.lo l.hi ≡ bisect low 50 +0 l.top)
