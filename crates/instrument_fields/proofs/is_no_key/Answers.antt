-- The expression is the definition of specs/Unused.antt, test by test.
use Rattle.counting.specs.Every.{every, every_after}
use Rattle.instrument_fields.specs.Unused.{is_no_key}
use Rattle.instrument_fields.proofs.is_no_key.Goals as goal

pub returns : goal.returns
unfolding is_no_key every every_after
returns c = cc
