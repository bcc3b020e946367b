-- The number of the bytes that were read.
use mathlib.Core.Path.{ap, ◌∙◌}
use Rattle.std.specs.Int.{from_le_bytes, w32}
use Rattle.little_endian.proofs.Ends.{read_32}
use Rattle.little_endian.proofs.u32_at.Goals as goal

pub returns : goal.returns
returns c = c.from_le_bytes.ensures ∙ ap (from_le_bytes w32) c.bytes_at-bytes.ensures ∙ read_32 c.args.f.now c.args.p
