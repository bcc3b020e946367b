-- The length behind the offset.
use mathlib.Core.Path.{refl}
use Rattle.little_endian.specs.Numbers.{le32}
use Rattle.instrument_writer.proofs.Stored.{word_then}
use Rattle.instrument_writer.proofs.put_pair.Goals as goal

pub returns : goal.returns
returns c =
    let a = c.args in
    word_then a.b.now _ _ (le32 a.size) a.p _ a.offset refl c.put_u32.ensures c.put_u32-2.ensures
