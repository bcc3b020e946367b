-- Past the end `get_or` gives its default, 0.
use mathlib.Core.Path.{sym}
use lib.ListN.{get_or-eq_default}
use Rattle.little_endian.proofs.byte_at.Goals as goal

pub returns-else-p-f : goal.returns-else-p-f
returns-else-p-f c = sym (get_or-eq_default c.args.f.now 0 c.if-p-f.false)
