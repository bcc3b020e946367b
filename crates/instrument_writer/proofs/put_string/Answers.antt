-- Four stores, one behind the other: `string_stored`.
use Rattle.instrument_writer.proofs.Records.{string_stored}
use Rattle.instrument_writer.proofs.put_string.Goals as goal

pub returns : goal.returns
returns c =
    let a = c.args in
    string_stored a.b.now _ _ _ _ a.p a.s _ _ c.low_16.ensures c.low_16-2.ensures
    c.put_u16.ensures c.put_u16-2.ensures c.put_four.ensures c.put_f64.ensures
