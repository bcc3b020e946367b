-- With some halvings done, the ones left from lo and hi give what all fifty give from 0 and top. Assumes nothing.
use mathlib.Core.Path.{refl}
use Prim.Native.Nat.{◌<◌}
use native.Mathlib.Omega.{arith}
use mathlib.Core.Bool.{true, false}
use Rattle.hammer.specs.Contact.{middle}
use Rattle.hammer.specs.Guess.{too_low}
use Rattle.hammer.proofs.Halvings.{turn, last}
use Rattle.hammer.proofs.Contact.bisect_force.Goals.{then-is_too_low, else-is_too_low}
use Rattle.hammer.proofs.Contact.bisect_force.Goals as goal

pub loop-init : goal.loop-init
loop-init c = (omega arith, refl)

pub loop-preserved : goal.loop-preserved
unfolding middle
loop-preserved c =
    let a = c.args.self in
    let more : c.loop.counter < 50 = omega (arith, c.loop-test.true) in (
      omega arith,
      let next = turn (too_low a.hammer a.eps_r a.c0 a.c1) 50 c.loop.counter c.loop.lo c.loop.hi _ (middle c.loop.lo c.loop.hi) c.is_too_low.result in
          elim c.if-is_too_low.branch [
            | then-is_too_low w ↦ rw (w.lo-is, w.hi-is) (next true more refl c.is_too_low.ensures w.if-is_too_low.true c.loop.invariant.1)
            | else-is_too_low w ↦ rw (w.lo-is, w.hi-is) (next false more refl c.is_too_low.ensures w.if-is_too_low.false c.loop.invariant.1)
          ],
    )

pub returns : goal.returns
unfolding middle
returns c =
    let a = c.args.self in
    last (too_low a.hammer a.eps_r a.c0 a.c1) 50 c.loop.counter c.loop.lo c.loop.hi _ c.loop.invariant.0 c.loop-test.false c.loop.invariant.1
