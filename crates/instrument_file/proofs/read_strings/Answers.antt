-- The invariant: the places before j hold the section's strings. Start, turn and end are laws of proofs/Filled.antt.
use mathlib.Core.Path.{refl}
use Rattle.instrument_file.proofs.Filled.{stored_start, stored_turn, stored_end}
use Rattle.instrument_file.proofs.read_strings.Goals as goal

pub loop-j-init : goal.loop-j-init
loop-j-init c = (refl, stored_start)

pub loop-j-preserved : goal.loop-j-preserved
loop-j-preserved c = (refl, stored_turn c.loop-j.invariant.1 c.loop-j-test.true (c.loop_in.ensures))

pub returns : goal.returns
returns c = stored_end c.loop-j.invariant.1 c.loop-j-test.false
