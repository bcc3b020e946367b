-- The expression is the definition of specs/File.antt, test by test: each call answers one by its contract.
use Rattle.counting.specs.Every.{every, every_after}
use Rattle.instrument_file.specs.File.{headed}
use Rattle.instrument_file.proofs.is_headed.Goals as goal

pub returns : goal.returns
unfolding headed every every_after
returns c = cc
