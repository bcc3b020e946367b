-- Each field is what a call answered; the definition's count is the one handed in.
use Rattle.instrument_file.specs.File.{instrument_of}
use Rattle.instrument_file.proofs.Sections.instrument_of.Goals as goal

pub returns : goal.returns
unfolding instrument_of
returns c = cc
