-- `keys::move_dampers` meets its contract. The loop's invariant is `Folded` of crate cells: what is left to do gives the whole. Assumes nothing.
use mathlib.Core.Path.{ap}
use lib.ListN.{length, set}
use lib.Ieee.{Float}
use Rattle.cells.specs.Numbered.{folded_turn}
use Rattle.keys.specs.Keys.{past_constants, constants_at, dampers}
use Rattle.keys.specs.Laws.{folded_list}
use Rattle.keys.proofs.move_dampers.Invariants.{turn}
use Rattle.keys.proofs.move_dampers.Goals as goal

pub loop-k-preserved : goal.loop-k-preserved
loop-k-preserved c =
    let args = c.args in
    folded_turn (constants_at args.keys.now) (turn args.down.now) (length args.keys.now) args.damper_r.now c.loop-k.damper_r _ c.loop-k.k
    c.loop-k.invariant c.loop-k-test.true (ap (λ (x : Float). set c.loop-k.damper_r c.loop-k.k x) c.damper_after.ensures)

pub returns : goal.returns
unfolding dampers
returns c =
    let args = c.args in
    folded_list args.keys.now past_constants (turn args.down.now) args.damper_r.now c.loop-k.damper_r c.loop-k.k c.loop-k.invariant c.loop-k-test.false
