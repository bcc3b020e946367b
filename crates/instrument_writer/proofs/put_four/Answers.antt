-- Four stores, one behind the other: `four_stored`.
use Rattle.instrument_writer.proofs.Records.{four_stored}
use Rattle.instrument_writer.proofs.put_four.Goals as goal

pub returns : goal.returns
returns c =
    let a = c.args in
    four_stored a.b.now _ _ _ _ a.p a.x a.y a.z a.w c.put_f64.ensures c.put_f64-2.ensures c.put_f64-3.ensures c.put_f64-4.ensures
