-- `string::StringAt::send_back` meets its contract: one write, of the line c_l. Assumes nothing.
use Rattle.string.specs.String.{bridge_write}
use Rattle.string.proofs.StringAt.send_back.Goals as goal

pub returns : goal.returns
unfolding bridge_write
returns c = rw c.layout-at.ensures.c_l at c.write_line.ensures
