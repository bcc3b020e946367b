-- `rows::start_strings` meets its contract. The loop's invariant: l strings have started, and string i + l starts at `at`. Assumes nothing.
use mathlib.Core.Path.{◌≡◌, refl, ap, ◌∙◌}
use Prim.Native.Nat.{ℕ, ◌+◌}
use native.Mathlib.Omega.{arith}
use Rattle.string.specs.Table.{design_at}
use Rattle.rows.specs.Rows.{string_start}
use Rattle.rows.specs.Laws.{few_fits, start_after, on_none, started_turn}
use Rattle.rows.proofs.start_strings.Goals as goal

pub loop-l-init : goal.loop-l-init
loop-l-init g c =
    let args = c.args in
    let f = design_at args.designs.now in
    let none : args.here.i ≡ args.here.i + 0 = omega arith in
    record {
      start = c.requires.few.start ∙ ap (λ (k : ℕ). string_start f k) none;
      started = record { long = refl; cells = on_none f args.here.i _ args.part.now; values = λ l h. let z : ⊥ = omega arith in absurd z };
    }

pub layout-requires : goal.layout-requires
layout-requires g c = let fits = few_fits c.requires.few c.loop-l.l c.loop-l-test.true in omega (arith, fits)

pub overflow_add-end : goal.overflow_add-end
overflow_add-end g c = let fits = few_fits c.requires.few c.loop-l.l c.loop-l-test.true in omega (arith, fits)

pub offset_bounds-part-at : goal.offset_bounds-part-at
offset_bounds-part-at g c = let fits = few_fits c.requires.few c.loop-l.l c.loop-l-test.true in omega (arith, fits)

pub slice_bounds-start_filter-end : goal.slice_bounds-start_filter-end
slice_bounds-start_filter-end g c = let fits = few_fits c.requires.few c.loop-l.l c.loop-l-test.true in omega (arith, fits)

pub loop-l-preserved : goal.loop-l-preserved
loop-l-preserved g c =
    let args = c.args in
    let few = c.requires.few in
    let f = design_at args.designs.now in
    let done = c.loop-l.invariant in
    let after = start_after f args.here.i c.loop-l.l in
    let call = c.start_filter.ensures in
    record {
      start = omega (arith, after);
      started = started_turn f args.here.i c.loop-l.l g.row.M args.t args.part.now c.loop-l.part few.room c.loop-l-test.true
          c.loop-l.at c.layout.result.size done.start c.layout.ensures.size c.loop-l.v done.started
          (omega (arith, done.started.long, few.few)) c.start_filter.result c.start_filter.new.part call.0 call.1;
    }
