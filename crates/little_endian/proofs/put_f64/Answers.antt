-- The bytes of its bits.
use Rattle.little_endian.specs.Stores.{stored_f64}
use Rattle.little_endian.proofs.put_f64.Goals as goal

pub returns : goal.returns
returns c =
    let z = c.args in
    stored_f64 z.b.now _ z.p _ z.x c.bits_of.ensures c.put_u64.ensures
