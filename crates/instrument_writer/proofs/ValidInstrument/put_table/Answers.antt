-- The number of sections, the common section's pair and the keys': `table_stored`.
use native.Mathlib.Omega.{arith}
use Rattle.instrument.specs.ValidLaws.{valid_counts}
use Rattle.instrument_writer.proofs.Loops.{table_stored}
use Rattle.instrument_writer.proofs.ValidInstrument.put_table.Goals as goal

pub overflow_cast-n : goal.overflow_cast-n
overflow_cast-n c = let counts = valid_counts c.args.self.now.instrument c.args.self.now.valid in omega arith

pub put_pair-requires : goal.put_pair-requires
put_pair-requires c =
    let counts = valid_counts c.args.self.now.instrument c.args.self.now.valid in
    let kept = c.put_u32.auto.b in
    (omega arith, omega arith, omega arith)

pub returns : goal.returns
returns c =
    let a = c.args in
    table_stored a.self.now.instrument a.b.now _ _ _ c.put_u32.ensures c.put_pair.ensures c.put_pairs.ensures
