-- The slots passed are sound, so that the slots left decide.
use Rattle.std.proofs.Common.{◌≡◌, length}
use Rattle.session_cues.specs.Cues.{sound_cues}
use Rattle.session_cues.proofs.are_sound.Given as goal

abbrev pub invariant-loop-cue : goal.invariant-loop-cue
invariant-loop-cue l = sound_cues l.keys l.left ≡ sound_cues l.keys l.cues

abbrev pub decreases-loop-cue : goal.decreases-loop-cue
decreases-loop-cue l = length l.left
