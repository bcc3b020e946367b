-- `rows::filter_strings` meets its contract. The loop's invariant: the strings below i are filtered, and string i starts at `at`. Assumes nothing.
use mathlib.Core.Path.{◌≡◌}
use lib.ListN.{length}
use native.Mathlib.Omega.{arith}
use Rattle.string.specs.Table.{design_at}
use Rattle.rows.specs.Laws.{below_none, below_turn, all_room, filtered_whole}
use Rattle.rows.proofs.filter_strings.Goals as goal

pub loop-next-init : goal.loop-next-init
loop-next-init c =
    let args = c.args in
    record { within = omega arith; below = below_none (design_at args.designs.now) args.t args.part.now args.v_in.now }

pub loop-next-preserved : goal.loop-next-preserved
loop-next-preserved c =
    let args = c.args in
    let next = c.filter_next-next.ensures in
    record {
      within = omega (arith, next.next, next.below);
      below = below_turn (design_at args.designs.now) c.loop-next.invariant.below next
          (all_room args.designs.now args.part.now c.requires.has_cells) c.requires.has_v_in;
    }

pub returns : goal.returns
returns c =
    let args = c.args in
    let all : c.loop-next.next.i ≡ length args.designs.now = omega arith in
    filtered_whole args.designs.now args.t c.loop-next.next.at args.part.now c.loop-next.part args.v_in.now c.loop-next.v_in
    (rw all at c.loop-next.invariant.below) c.requires.has_v_in
