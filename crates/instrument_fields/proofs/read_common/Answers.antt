-- Each field is the number at its place, as specs/Fields.antt has it: the contracts of the reads, field by field.
use Rattle.instrument_fields.specs.Fields.{damper_of, common_of}
use Rattle.instrument_fields.proofs.read_common.Goals as goal

pub returns : goal.returns
unfolding common_of damper_of
returns c = cc
