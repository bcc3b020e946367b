-- With some halvings done, the ones left from lo and hi leave the ends that all fifty leave from 0 and top. Assumes nothing.
use mathlib.Core.Path.{◌≡◌}
use Prim.Native.Nat.{◌-◌, ◌≤◌}
use Rattle.float.specs.Float.{zero as +0}
use Rattle.hammer.specs.Guess.{low_by_guess, high_by_guess}
use Rattle.hammer.proofs.bisect_by_guess.Given as goal

abbrev pub invariant-loop : goal.invariant-loop
invariant-loop l =
    (l.counter ≤ 50)
    × (low_by_guess l.guess (50 - l.counter) l.lo l.hi ≡ low_by_guess l.guess 50 +0 l.top)
    × (high_by_guess l.guess (50 - l.counter) l.lo l.hi ≡ high_by_guess l.guess 50 +0 l.top)
