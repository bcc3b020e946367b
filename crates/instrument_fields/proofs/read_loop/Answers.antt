-- Each field is the number at its place, as specs/Fields.antt has it: the contracts of the reads, field by field.
use Rattle.instrument_fields.specs.Fields.{loop_of}
use Rattle.instrument_fields.proofs.read_loop.Goals as goal

pub returns : goal.returns
unfolding loop_of
returns c = cc
