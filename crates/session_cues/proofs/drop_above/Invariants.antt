-- After i slots: the first i are dropped where they lie above q, and the others are as they were.
use Rattle.std.proofs.Common.{◌≡◌, map, take, drop, ◌++◌}
use Rattle.session_cues.specs.Cues.{drop_above}
use Rattle.session_cues.proofs.drop_above.Given as goal

abbrev pub invariant-loop-cue : goal.invariant-loop-cue
invariant-loop-cue l = l.cues ≡ map (drop_above l.q) (take l.cue-index l.fn.cues) ++ drop l.cue-index l.fn.cues
