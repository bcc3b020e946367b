-- `string::StringAt::read` meets its contract: each read is of the line that starts at its offset. Assumes nothing.
use Rattle.string.specs.String.{reads_of}
use Rattle.string.proofs.StringAt.read.Goals as goal

pub returns : goal.returns
unfolding reads_of
returns c =
    let l = c.layout-at.ensures in
    rw (
      c.read_line-5.ensures,
      c.read_line-4.ensures,
      c.read_line-3.ensures,
      c.read_line-2.ensures,
      c.read_line.ensures,
      l.c_l,
      l.b_l,
      l.b_r,
    )
