-- One slot more is dropped where it lies above q.
use Rattle.std.proofs.Common.{arith}
use Rattle.session_cues.specs.Cues.{drop_above}
use Rattle.session_cues.proofs.Slots.{map_turn}
use Rattle.session_cues.proofs.drop_above.Goals as goal

pub loop-cue-preserved : goal.loop-cue-preserved
loop-cue-preserved c = map_turn (drop_above c.args.q) c.args.cues.now c.loop-cue.cues c.loop-cue.cue-index _ (omega arith) c.loop-cue.invariant
