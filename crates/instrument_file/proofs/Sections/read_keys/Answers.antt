-- The invariant: the places before k hold the section's keys. Start, turn and end are laws of proofs/Filled.antt.
use Rattle.instrument_fields.specs.Fields.{key_of}
use mathlib.Core.Path.{refl, ap, ◌∙◌}
use Rattle.instrument_file.proofs.Filled.{stored_start, stored_turn, stored_end}
use Rattle.instrument_file.proofs.Sections.read_keys.Goals as goal

pub loop-k-init : goal.loop-k-init
loop-k-init c = (refl, stored_start)

pub loop-k-preserved : goal.loop-k-preserved
loop-k-preserved c = (refl, stored_turn c.loop-k.invariant.1 c.loop-k-test.true (c.read_key.ensures ∙ ap key_of c.section.ensures))

pub returns : goal.returns
returns c = stored_end c.loop-k.invariant.1 c.loop-k-test.false
