-- The part of the file that the pair names: the contracts of the read of the pair and of `part`, put together.
use Rattle.instrument_file.specs.File.{section}
use Rattle.instrument_file.proofs.Sections.section.Goals as goal

pub returns : goal.returns
unfolding section
returns c = cc
