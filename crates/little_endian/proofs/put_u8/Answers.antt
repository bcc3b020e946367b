-- Past the end `set` changes nothing.
use mathlib.Core.Path.{sym}
use lib.Seq.{set_out}
use Rattle.little_endian.proofs.put_u8.Goals as goal

pub returns-else-p-b : goal.returns-else-p-b
returns-else-p-b c = let z = c.args in sym (set_out z.b.now z.p z.x c.if-p-b.false)
