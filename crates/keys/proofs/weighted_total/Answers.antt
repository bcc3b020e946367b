-- `keys::weighted_total` meets its contract. The loop's invariant is `Folded` of crate cells: what is left to do gives the whole. Assumes nothing.
use Rattle.float.specs.Float.{zero as +0}
use mathlib.Core.Path.{refl}
use lib.ListN.{length}
use Rattle.cells.specs.Numbered.{folded_turn}
use Rattle.keys.specs.Keys.{past_constants, constants_at, weighted_total}
use Rattle.keys.specs.Laws.{folded_list}
use Rattle.keys.proofs.weighted_total.Invariants.{turn}
use Rattle.keys.proofs.weighted_total.Goals as goal

pub loop-k-preserved : goal.loop-k-preserved
loop-k-preserved c =
    let args = c.args in
    folded_turn (constants_at args.keys.now) (turn args.sums.now) (length args.keys.now) +0 c.loop-k.total _ c.loop-k.k
    c.loop-k.invariant c.loop-k-test.true refl

pub returns : goal.returns
unfolding weighted_total
returns c =
    let args = c.args in
    folded_list args.keys.now past_constants (turn args.sums.now) +0 c.loop-k.total c.loop-k.k c.loop-k.invariant c.loop-k-test.false
