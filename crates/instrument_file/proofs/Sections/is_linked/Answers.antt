-- The expression is the definition of specs/File.antt, test by test: each call answers one by its contract.
use Rattle.instrument_file.specs.File.{linked}
use Rattle.instrument_file.proofs.Sections.is_linked.Goals as goal

pub returns : goal.returns
unfolding linked
returns c = cc
