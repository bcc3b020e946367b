-- `decimator::thin` meets its contract. The invariant: the places before i hold the filtered samples. Assumes nothing.
use mathlib.Core.Path.{refl}
use Prim.Native.Nat.{◌*◌, ◌<◌}
use native.Mathlib.Omega.{arith}
use lib.ListN.{length}
use Rattle.decimator.proofs.Cases.{start_below, stored_start, stored_turn, stored_end}
use Rattle.decimator.proofs.thin.Goals as goal

pub loop-i-init : goal.loop-i-init
loop-i-init c = (refl, stored_start)

pub overflow_mul-i : goal.overflow_mul-i
overflow_mul-i c =
    let start : c.loop-i.i * c.args.factor < 1048576 =
    let b = start_below (length c.args.x.now) c.args.factor c.loop-i.i c.requires.several (rw c.requires.room at c.loop-i-test.true) in
    omega (arith, c.requires.most) in
    let b = start in omega arith

pub filtered_at-requires : goal.filtered_at-requires
filtered_at-requires c =
    let start : c.loop-i.i * c.args.factor < 1048576 =
    let b = start_below (length c.args.x.now) c.args.factor c.loop-i.i c.requires.several (rw c.requires.room at c.loop-i-test.true) in
    omega (arith, c.requires.most) in
    (start, c.requires.many)

pub loop-i-preserved : goal.loop-i-preserved
loop-i-preserved c =
    (refl, stored_turn c.loop-i.invariant.1 c.loop-i-test.true c.filtered_at.ensures)

pub returns : goal.returns
returns c = stored_end c.loop-i.invariant.1 c.loop-i-test.false
