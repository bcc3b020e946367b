-- Four stores, one behind the other: `common_stored`.
use Rattle.instrument_writer.proofs.Records.{common_stored}
use Rattle.instrument_writer.proofs.put_common.Goals as goal

pub returns : goal.returns
returns c =
    let a = c.args in
    common_stored a.b.now _ _ _ _ a.p a.c c.put_four.ensures c.put_four-2.ensures c.put_f64.ensures c.put_u32.ensures
