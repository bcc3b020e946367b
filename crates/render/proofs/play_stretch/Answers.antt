-- `render::play_stretch` meets its contract: a turn of its loop is `one_turn`. Assumes nothing.
use mathlib.Core.Path.{refl, ◌∙◌}
use mathlib.Core.Bool.{false}
use native.Mathlib.Omega.{arith}
use lib.ListN.{get_or}
use Rattle.sample.specs.Sample.{Step, model_at, step_of}
use Rattle.sample.specs.Laws.{ready_kept}
use Rattle.score.specs.Contacts.{contacts_of}
use Rattle.score.specs.Laws.{can_count}
use Rattle.render.specs.Render.{rendering_of}
use Rattle.render.proofs.Runs.{advanced_lengths, advanced_start, advanced_then, one_turn}
use Rattle.render.proofs.play_stretch.Goals as goal

pub loop-at-init : goal.loop-at-init
loop-at-init c =
    let at = c.args in
    record {
      counted = refl;
      advanced = advanced_start at.stretch.t (rendering_of at.stretch.run at.part.now at.out.now at.trace.now);
      in_range = c.requires.in_range;
      part = refl;
      scratch = refl;
      indexed = c.first_indices-room.ensures;
    }

pub sample-s-requires : goal.sample-s-requires
sample-s-requires c = record {
  ready = ready_kept c.requires.ready c.loop-at.invariant.part c.loop-at.invariant.scratch;
  indexed = c.loop-at.invariant.indexed;
}

pub next_indices-requires-clause-indexed : goal.next_indices-requires-clause-indexed
next_indices-requires-clause-indexed c = c.loop-at.invariant.indexed

pub count_contact-requires : goal.count_contact-requires
unfolding contacts_of
count_contact-requires c =
    let here = c.loop-at in
    let range = here.invariant.in_range in
    can_count _ here.piano.motion.hammer here.piano.contact_samples range.piano.hammer c.requires.ready.keys
    (omega (arith, range.piano.within, range.end, here.invariant.counted, c.loop-at-test.true))

pub push-pushed-requires : goal.push-pushed-requires
push-pushed-requires c =
    let here = c.loop-at.invariant in
    omega (arith, here.in_range.pushes, here.in_range.end, here.counted, c.loop-at-test.true)

pub loop-at-preserved : goal.loop-at-preserved
loop-at-preserved c =
    let here = c.loop-at in
    let at = c.args in
    let s = at.stretch in
    let step : Step = step_of c.sample-s.result c.sample-s.new.damper_r c.sample-s.new.part in
    let counted = here.invariant.counted in
    let turned =
    one_turn (model_at at.tables) (λ k. get_or s.down k false) s.t here.piano
    here.part here.done here.pushed step (rw counted at c.sample-s.ensures) _ c.count_contact.ensures c.push-pushed.result c.push-pushed.ensures.0
    here.invariant.in_range (omega (arith, counted, c.loop-at-test.true)) c.put.ensures c.push-pushed.ensures.1 in
    record {
      counted = omega (arith, counted);
      advanced = advanced_then here.invariant.advanced turned.0;
      in_range = turned.1;
      part = c.sample-s.auto.part ∙ here.invariant.part;
      scratch = c.sample-s.auto.scratch ∙ here.invariant.scratch;
      indexed = c.next_indices.ensures;
    }

pub shape_of-part : goal.shape_of-part
shape_of-part c = c.loop-at.invariant.part

pub shape_of-scratch : goal.shape_of-scratch
shape_of-scratch c = c.loop-at.invariant.scratch

pub shape_of-out : goal.shape_of-out
shape_of-out c = (advanced_lengths c.loop-at.invariant.advanced).0

pub shape_of-trace : goal.shape_of-trace
shape_of-trace c = (advanced_lengths c.loop-at.invariant.advanced).1

pub returns : goal.returns
returns c =
    let here = c.loop-at.invariant in
    (here.advanced, omega (arith, c.loop-at-test.false, here.counted, here.in_range.below), here.in_range)
