-- Past the end nothing is stored; else as many bytes as have room.
use mathlib.Core.Path.{sym, ap, ◌∙◌}
use borrow.Rule.Slice.PartMut.{put_mid}
use Rattle.little_endian.specs.Stores.{sets_out}
use Rattle.little_endian.proofs.Ends.{put_is}
use Rattle.little_endian.proofs.put_bytes.Goals as goal

pub returns-then-p-b : goal.returns-then-p-b
returns-then-p-b c =
    let z = c.args in
    ap (put_mid z.p _ z.b.now) c.copy_from_slice.ensures.after ∙ put_is z.b.now z.x.now z.p c.min-n.result c.min-n.ensures c.if-p-b.true

pub returns-else-p-b : goal.returns-else-p-b
returns-else-p-b c = let z = c.args in sym (sets_out z.b.now z.x.now z.p c.if-p-b.false)
