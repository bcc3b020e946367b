-- The keys behind the common section: `sections_stored`.
use Rattle.instrument_writer.proofs.Loops.{sections_stored}
use Rattle.instrument_writer.proofs.ValidInstrument.put_sections.Goals as goal

pub returns : goal.returns
returns c =
    let a = c.args in
    sections_stored a.self.now.instrument a.b.now _ _ a.p c.put_common.ensures c.put_keys.ensures
