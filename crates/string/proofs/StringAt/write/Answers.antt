-- `string::StringAt::write` meets its contract: five writes, one after the other, each of the line that starts at its offset. Assumes nothing.
use Rattle.string.specs.String.{point_writes, nut_write}
use Rattle.string.proofs.StringAt.write.Goals as goal

pub returns : goal.returns
unfolding nut_write point_writes
returns c =
    let l = c.layout-at.ensures in
    rw (
      c.write_line-5.ensures,
      c.write_line-4.ensures,
      c.write_line-3.ensures,
      c.write_line-2.ensures,
      c.write_line.ensures,
      l.c_r,
      l.b_l,
      l.b_r,
    )
