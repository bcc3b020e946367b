-- The expression is the definition of specs/File.antt, test by test: each call answers one by its contract.
use Rattle.counting.specs.Every.{every, every_after}
use Rattle.instrument_file.specs.File.{linked, chained}
use Rattle.instrument_file.proofs.Tests.{all_in_range}
use Rattle.instrument_file.proofs.Sections.is_chained.Goals as goal

pub returns : goal.returns
unfolding chained every every_after
returns c = let each = all_in_range (linked c.args.self.file.now) c.args.self.keys in cc
