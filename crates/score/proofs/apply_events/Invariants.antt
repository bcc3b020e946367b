-- `score::apply_events` meets its contract. The loop's invariant: the events from e on that act at t give what all of them give. Assumes nothing.
use mathlib.Core.Path.{◌≡◌}
use lib.ListN.{length}
use Rattle.score.proofs.Loops.{Acted}
use Rattle.score.proofs.apply_events.Given as goal

abbrev pub invariant-loop-e : goal.invariant-loop-e
invariant-loop-e l = record {
  long : length l.part ≡ length l.initial.part;
  acted : Acted l.instrument l.designs l.events l.t (record { piano = l.initial.p; cells = l.initial.part })
      (record { piano = l.p; cells = l.part }) l.e-index;
}
