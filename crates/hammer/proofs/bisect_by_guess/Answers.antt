-- With some halvings done, the ones left from lo and hi leave the ends that all fifty leave from 0 and top. Assumes nothing.
use mathlib.Core.Path.{refl}
use Prim.Native.Nat.{◌<◌}
use native.Mathlib.Omega.{arith}
use lib.Ieee.{lt, le}
use Rattle.hammer.specs.Contact.{middle}
use Rattle.hammer.proofs.Halvings.{ends_turn, ends_last}
use Rattle.hammer.proofs.bisect_by_guess.Goals as goal

pub loop-init : goal.loop-init
loop-init c = (omega arith, refl, refl)

pub loop-preserved : goal.loop-preserved
unfolding middle
loop-preserved c =
    let g = c.args.guess in
    let more : c.loop.counter < 50 = omega (arith, c.loop-test.true) in
    let p =
    ends_turn (λ m. lt m g) (λ m. le g m) 50 c.loop.counter c.loop.lo c.loop.hi _ _ (middle c.loop.lo c.loop.hi) c.choose-lo.result c.choose-hi.result
    more refl c.choose-lo.ensures c.choose-hi.ensures c.loop.invariant.1 c.loop.invariant.2 in
    (omega arith, p.0, p.1)

pub returns-clause-low : goal.returns-clause-low
returns-clause-low c =
    let g = c.args.guess in
    let l = c.loop in
    (ends_last (λ m. lt m g) (λ m. le g m) 50 l.counter l.lo l.hi _ _ l.invariant.0 c.loop-test.false l.invariant.1 l.invariant.2).0

pub returns-clause-high : goal.returns-clause-high
returns-clause-high c =
    let g = c.args.guess in
    let l = c.loop in
    (ends_last (λ m. lt m g) (λ m. le g m) 50 l.counter l.lo l.hi _ _ l.invariant.0 c.loop-test.false l.invariant.1 l.invariant.2).1
