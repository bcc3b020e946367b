-- The number of the bytes that were read.
use mathlib.Core.Path.{ap, ◌∙◌}
use Rattle.std.specs.Int.{from_le_bytes, w16}
use Rattle.little_endian.proofs.Ends.{read_16}
use Rattle.little_endian.proofs.u16_at.Goals as goal

pub returns : goal.returns
returns c = c.from_le_bytes.ensures ∙ ap (from_le_bytes w16) c.bytes_at-bytes.ensures ∙ read_16 c.args.f.now c.args.p
