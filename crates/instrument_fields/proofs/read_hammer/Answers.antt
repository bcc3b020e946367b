-- Each field is the number at its place, as specs/Fields.antt has it: the contracts of the reads, field by field.
use Rattle.instrument_fields.specs.Fields.{hammer_of}
use Rattle.instrument_fields.proofs.read_hammer.Goals as goal

pub returns : goal.returns
unfolding hammer_of
returns c = cc
