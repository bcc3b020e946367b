-- `render::next_stretch` meets its contract: each call gives a field of `NextStretch`. The events act on the instrument's strings, and
-- no event lies before the one that `next_event` found. Assumes nothing.
use mathlib.Core.Path.{refl, sym, ◌∙◌}
use Prim.Native.Nat.{ℕ, ◌+◌, ◌≤◌, ◌<◌}
use native.Mathlib.Omega.{arith}
use Rattle.std.specs.Prelude.{IfSome}
use Rattle.score.specs.Score.{next_from}
use Rattle.score.specs.Laws.{next_after, none_at}
use Rattle.render.proofs.next_stretch.Goals as goal
use Rattle.render.proofs.next_stretch.Goals.{in-Some, in-None}

pub overflow_sub-next : goal.overflow_sub-next
overflow_sub-next c =
    let at = c.args in
    omega (arith, next_after at.events.now (at.t + at.run.done + 1) c.in-Some.next (sym c.in-Some.ensures))

pub returns : goal.returns
returns c =
    let at = c.args in
    let es = at.events.now in
    let from = at.t + at.run.done + 1 in
    let stop = c.match-next_event.stop in
    let stops : (at.run.done < stop) × (stop ≤ at.m) × ((u : ℕ) → u < at.t + stop → IfSome (next_from es from) (λ n. u < n)) =
    elim c.match-next_event.branch [
      | in-Some w ↦
          let after = next_after es from w.in-Some.next (sym w.in-Some.ensures) in
          let is = w.stop-is ∙ w.min-stop.ensures in
          (omega (arith, after, is, c.requires.done_lt_m), omega (arith, is), λ u h. rw (← w.in-Some.ensures) (omega (arith, after, is, h)))
      | in-None w ↦ (omega (arith, w.stop-is, c.requires.done_lt_m), omega (arith, w.stop-is), λ u h. rw (← w.in-None.ensures) tt)
    ] in
    record {
      acted = rw c.requires.strings at c.apply_events-piano.ensures;
      down = c.dampers_down.ensures;
      start = refl;
      done = refl;
      pushed = refl;
      more = stops.0;
      most = stops.1;
      none = λ u a b. none_at es from u a (stops.2 u b);
    }
