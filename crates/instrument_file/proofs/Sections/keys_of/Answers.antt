-- The first n places hold the keys, and those behind them zeros.
use lib.ListN.{replicate}
use Rattle.std.proofs.lemmas.List.{length-take-le}
use Rattle.instrument_fields.specs.Unused.{no_key}
use Rattle.instrument_file.specs.File.{keys_in}
use Rattle.instrument_file.proofs.Filled.{front_filled}
use Rattle.instrument_file.proofs.Sections.keys_of.Goals as goal

pub returns : goal.returns
unfolding keys_in
returns c =
    front_filled _ no_key _ 16 c.args.self.keys _ _ c.read_keys.ensures
    (length-take-le c.args.self.keys (replicate 16 c.no_key-out.result) c.args.self.few) c.no_key-out.ensures
