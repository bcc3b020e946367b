-- `rows::next_stage` meets its contract. The loop's invariant: l strings have passed stage s, and the others' values are as they were. Assumes nothing.
use Prim.Native.Nat.{◌+◌, ◌-◌, ◌*◌}
use lib.ListN.{get_or}
use lib.Ieee.{nan}
use native.Mathlib.Omega.{arith}
use Rattle.string.specs.Table.{design_at}
use Rattle.cells.specs.Together.{back_next}
use Rattle.rows.specs.Laws.{stage_room, staged_turn}
use Rattle.rows.proofs.next_stage.Goals as goal

pub overflow_add-z : goal.overflow_add-z
overflow_add-z g c =
    let room = stage_room c.requires.few c.loop-l.l c.loop-l-test.true c.requires.laid c.args.s c.requires.s_lt_stages.0 in
    omega (arith, room)

pub overflow_add-e : goal.overflow_add-e
overflow_add-e g c =
    let room = stage_room c.requires.few c.loop-l.l c.loop-l-test.true c.requires.laid c.args.s c.requires.s_lt_stages.0 in
    omega (arith, room)

pub offset_bounds-part-z : goal.offset_bounds-part-z
offset_bounds-part-z g c =
    let room = stage_room c.requires.few c.loop-l.l c.loop-l-test.true c.requires.laid c.args.s c.requires.s_lt_stages.0 in
    omega (arith, room)

pub slice_bounds-allpass-end : goal.slice_bounds-allpass-end
slice_bounds-allpass-end g c =
    let room = stage_room c.requires.few c.loop-l.l c.loop-l-test.true c.requires.laid c.args.s c.requires.s_lt_stages.0 in
    omega (arith, room)

pub loop-l-preserved : goal.loop-l-preserved
loop-l-preserved g c =
    let args = c.args in
    let few = c.requires.few in
    let laid = c.requires.laid in
    let l = c.loop-l.l in
    let taken = c.loop-l-test.true in
    let done = c.loop-l.invariant in
    let start = laid.start l taken in
    let enough = laid.enough l taken in
    let z = get_or args.rows.starts l 0 + 2 * args.s in
    record {
      passed = staged_turn (design_at args.designs.now) args.here.i l g.row.M args.s args.v.now c.loop-l.v args.part.now c.loop-l.part
          few.room taken done.passed (omega (arith, enough, c.requires.s_lt_stages.0)) (done.rest l (omega arith))
          (omega (arith, done.passed.long, c.requires.s_lt_stages.1, taken, few.few)) z (z + 2 - z) (get_or args.rows.ap_a l nan)
          c.allpass.result c.allpass.new.cells (omega (arith, start)) (omega arith) (laid.coefficient l taken)
          c.allpass.ensures.0 c.allpass.ensures.1;
      rest = λ j h. back_next nan c.loop-l.v args.v.now l done.rest c.allpass.result j h;
    }
