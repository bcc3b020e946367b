-- The first strings' cells, at most 4,137 each, so that no sum wraps.
use mathlib.Core.Path.{◌∙◌}
use native.Mathlib.Omega.{arith}
use borrow.Author.Tests.{le-leb, lt-leb}
use Rattle.instrument.specs.Work.{counted_part}
use Rattle.instrument.proofs.Lists.{cells_first, part_most}
use Rattle.instrument.proofs.part_cells.Goals as goal

pub returns-then-i-gt32 : goal.returns-then-i-gt32
unfolding counted_part
returns-then-i-gt32 c = (rw (lt-leb _ 32 c.if-i-gt32.true), omega arith)

pub cells_of-requires : goal.cells_of-requires
cells_of-requires c =
    let i = c.args.i in
    let most = part_most i.strings i.string_count (omega arith) c.if-i-gt32.false in
    omega arith

pub returns : goal.returns
unfolding counted_part
returns c =
    let i = c.args.i in
    let most = part_most i.strings i.string_count (omega arith) c.if-i-gt32.false in
    (rw (le-leb _ 32 c.if-i-gt32.false) (c.cells_of.ensures ∙ cells_first i.strings i.string_count (omega arith)), omega (arith, c.cells_of.ensures, most))
