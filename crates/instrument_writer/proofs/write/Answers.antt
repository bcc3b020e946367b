-- The record passed its test, and the bytes have room for its file. The ways out are laws of proofs/Whole.antt.
use mathlib.Core.Path.{sym, ◌∙◌}
use native.Mathlib.Omega.{arith}
use Rattle.instrument_writer.specs.Pieces.{length_counted}
use Rattle.instrument_writer.proofs.write.Goals as goal

pub put_file-requires : goal.put_file-requires
put_file-requires c =
    let size = length_counted c.args.i (sym c.is_given-given.ensures.answer ∙ c.if-not-given.false) in
    omega (arith, size, c.file_length-length.ensures)
