-- `keys::sum_keys` meets its contract. The loop's invariant is `Folded` of crate cells: what is left to do gives the whole. Assumes nothing.
use mathlib.Core.Path.{refl}
use lib.ListN.{length}
use Rattle.cells.specs.Numbered.{folded_turn}
use Rattle.string.specs.Table.{past_design, design_at}
use Rattle.keys.specs.Keys.{sums_from}
use Rattle.keys.specs.Laws.{folded_list}
use Rattle.keys.proofs.sum_keys.Invariants.{turn}
use Rattle.keys.proofs.sum_keys.Goals as goal

pub loop-i-preserved : goal.loop-i-preserved
loop-i-preserved c =
    let args = c.args in
    folded_turn (design_at args.designs.now) (turn args.v_in.now) (length args.designs.now) args.sums.now c.loop-i.sums _ c.loop-i.i
    c.loop-i.invariant c.loop-i-test.true refl

pub returns : goal.returns
unfolding sums_from
returns c =
    let args = c.args in
    folded_list args.designs.now past_design (turn args.v_in.now) args.sums.now c.loop-i.sums c.loop-i.i c.loop-i.invariant c.loop-i-test.false
