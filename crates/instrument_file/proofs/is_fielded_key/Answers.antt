-- The expression is the definition of specs/File.antt, test by test: each call answers one by its contract.
use Rattle.counting.specs.Every.{every, every_after}
use Rattle.instrument_file.specs.File.{loop_in, fielded_key}
use Rattle.instrument_fields.specs.Ranges.{string_in_range}
use Rattle.instrument_file.proofs.Tests.{all_in_range}
use Rattle.instrument_file.proofs.is_fielded_key.Goals as goal

pub returns : goal.returns
unfolding fielded_key every every_after
returns c = let each = all_in_range (λ j. string_in_range (loop_in c.args.b.now j)) c.from-s.result in cc
