-- `keys::bridge_speeds` meets its contract. The loop's invariant is `Folded` of crate cells: what is left to do gives the whole. Assumes nothing.
use mathlib.Core.Path.{ap}
use lib.ListN.{length, set}
use lib.Ieee.{Float}
use Rattle.cells.specs.Numbered.{folded_turn}
use Rattle.keys.specs.Keys.{past_constants, constants_at, speeds}
use Rattle.keys.specs.Laws.{folded_list}
use Rattle.keys.proofs.bridge_speeds.Invariants.{turn}
use Rattle.keys.proofs.bridge_speeds.Goals as goal

pub loop-k-preserved : goal.loop-k-preserved
loop-k-preserved c =
    let args = c.args in
    folded_turn (constants_at args.keys.now) (turn args.yz args.total) (length args.keys.now) args.sums.now c.loop-k.sums _ c.loop-k.k
    c.loop-k.invariant c.loop-k-test.true (ap (λ (x : Float). set c.loop-k.sums c.loop-k.k x) c.bridge_speed.ensures)

pub returns : goal.returns
unfolding speeds
returns c =
    let args = c.args in
    folded_list args.keys.now past_constants (turn args.yz args.total) args.sums.now c.loop-k.sums c.loop-k.k c.loop-k.invariant c.loop-k-test.false
