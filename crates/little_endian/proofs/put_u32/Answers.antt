-- The number's bytes are stored.
use mathlib.Core.Path.{ap, ◌∙◌}
use Rattle.std.proofs.lemmas.List.Edits.{sets}
use Rattle.little_endian.proofs.Ends.{bytes_32}
use Rattle.little_endian.proofs.put_u32.Goals as goal

pub returns : goal.returns
returns c = let z = c.args in c.put_bytes.ensures ∙ ap (sets z.b.now z.p) (c.to_le_bytes-bytes.ensures ∙ bytes_32 z.x)
