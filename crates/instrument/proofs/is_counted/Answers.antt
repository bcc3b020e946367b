-- The expression is the definition of specs/Valid.antt, test by test: each call answers one by its contract.
use Rattle.counting.specs.Every.{every, every_after}
use Rattle.instrument.specs.Valid.{counted}
use Rattle.instrument.proofs.is_counted.Goals as goal

pub returns : goal.returns
unfolding counted every every_after
returns c = cc
