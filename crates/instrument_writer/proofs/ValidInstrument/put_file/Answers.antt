-- The sections behind the table: `file_stored`. The room that both need is the file's length.
use native.Mathlib.Omega.{arith}
use Rattle.instrument_encoding.proofs.Lengths.{encode_length}
use Rattle.instrument_writer.proofs.Whole.{file_stored}
use Rattle.instrument_writer.proofs.ValidInstrument.put_file.Goals as goal

pub put_table-requires : goal.put_table-requires
put_table-requires c =
    let size = encode_length c.args.self.now.instrument c.args.self.now.valid in
    omega arith

pub overflow_mul-self : goal.overflow_mul-self
overflow_mul-self c =
    let size = encode_length c.args.self.now.instrument c.args.self.now.valid in
    omega arith

pub overflow_add-self : goal.overflow_add-self
overflow_add-self c =
    let size = encode_length c.args.self.now.instrument c.args.self.now.valid in
    omega arith

pub put_sections-requires : goal.put_sections-requires
put_sections-requires c =
    let size = encode_length c.args.self.now.instrument c.args.self.now.valid in
    let kept = c.put_table.auto.b in
    omega arith

pub returns : goal.returns
returns c =
    let a = c.args in
    file_stored a.self.now.instrument a.b.now _ _ c.put_table.ensures c.put_sections.ensures
