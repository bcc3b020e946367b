-- `render::play_stretch` meets its contract. The loop's invariant: as many samples are counted as the position has gone on; the render
-- went on from the stretch's start to the run so far, whose counts are in range; part and scratch have as many cells as before; the
-- indices are those of the next sample's position. Assumes nothing.
use mathlib.Core.Path.{◌≡◌}
use mathlib.Core.Bool.{false}
use Prim.Native.Nat.{◌+◌}
use lib.ListN.{length, get_or}
use Rattle.strings.specs.Strings.{Indexed}
use Rattle.sample.specs.Sample.{model_at}
use Rattle.render.specs.Render.{Advanced, InRange, stepped, rendering_of}
use Rattle.render.proofs.play_stretch.Given as goal

abbrev pub invariant-loop-at : goal.invariant-loop-at
invariant-loop-at l = record {
  counted : l.at ≡ l.t + l.done;
  advanced : Advanced (stepped (model_at l.tables) (λ k. get_or l.down k false)) l.t
      (rendering_of (record { piano = l.initial.piano; done = l.initial.done; pushed = l.initial.pushed }) l.initial.part l.initial.out l.initial.trace)
      (rendering_of (record { piano = l.piano; done = l.done; pushed = l.pushed }) l.part l.out l.trace);
  in_range : InRange (length l.tables.keys.now) (record { piano = l.piano; done = l.done; pushed = l.pushed }) l.t l.stop;
  part : length l.part ≡ length l.initial.part;
  scratch : length l.scratch ≡ length l.initial.scratch;
  indexed : Indexed l.designs l.indices l.at;
}
