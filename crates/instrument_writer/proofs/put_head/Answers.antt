-- Four bytes and four floats behind them: `head_stored`.
use Rattle.instrument_writer.proofs.Records.{flag_is, head_stored}
use mathlib.Core.Path.{◌∙◌}
use Rattle.instrument_writer.proofs.put_head.Goals as goal

pub returns : goal.returns
returns c =
    let a = c.args in
    head_stored a.b.now _ _ _ _ a.p _ a.k _ (c.from.ensures ∙ flag_is a.k.has_damper)
    c.put_u8.ensures c.put_u8-2.ensures c.put_u8-3.ensures c.put_u8-4.ensures c.put_four.ensures
