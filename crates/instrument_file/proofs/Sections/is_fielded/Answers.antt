-- The expression is the definition of specs/File.antt, test by test: each call answers one by its contract.
use Rattle.counting.specs.Every.{every, every_after}
use Rattle.instrument_file.specs.File.{fielded_key, key_section, fielded}
use Rattle.instrument_file.proofs.Tests.{all_in_range}
use Rattle.instrument_file.proofs.Sections.is_fielded.Goals as goal

pub returns : goal.returns
unfolding fielded every every_after
returns c = let each = all_in_range (λ k. fielded_key (key_section c.args.self.file.now k)) c.args.self.keys in cc
