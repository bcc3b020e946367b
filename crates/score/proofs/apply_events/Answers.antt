-- `score::apply_events` meets its contract: a turn acts where the event is at t, and goes on where it is not. Assumes nothing.
use mathlib.Core.Path.{refl, ap, ◌∙◌}
use lib.ListN.{length, get_or}
use Rattle.score.specs.Events.{State}
use Rattle.score.specs.Score.{no_event}
use Rattle.score.proofs.Loops.{acted_now, acted_other, acted_end}
use Rattle.score.proofs.apply_events.Goals as goal
use Rattle.score.proofs.apply_events.Goals.{then-e-t, else-e-t}

pub loop-e-preserved : goal.loop-e-preserved
loop-e-preserved c =
    let at = c.args in
    let ds = at.designs.now in
    let es = at.events.now in
    let s₀ : State = record { piano = at.piano; cells = at.part.now } in
    let s : State = record { piano = c.loop-e.p; cells = c.loop-e.part } in
    let k = c.loop-e.e-index in
    let e = get_or es k no_event in
    let acted = c.loop-e.invariant.acted in
    elim c.if-e-t.branch [
      | then-e-t w ↦ record {
        long = ap length w.part-is ∙ w.apply-p.auto.part ∙ c.loop-e.invariant.long;
        acted = rw (w.part-is, w.p-is) (acted_now at.instrument ds es at.t s₀ s k acted c.loop-e-test.true e refl w.if-e-t.true _ w.apply-p.ensures);
      }
      | else-e-t w ↦ record {
        long = ap length w.part-is ∙ c.loop-e.invariant.long;
        acted = rw (w.part-is, w.p-is) (acted_other at.instrument ds es at.t s₀ s k acted c.loop-e-test.true e refl w.if-e-t.false);
      }
    ]

pub returns : goal.returns
returns c =
    let at = c.args in
    let ds = at.designs.now in
    acted_end at.instrument ds at.events.now at.t (record { piano = at.piano; cells = at.part.now })
    (record { piano = c.loop-e.p; cells = c.loop-e.part }) c.loop-e.e-index c.loop-e.invariant.acted c.loop-e-test.false
