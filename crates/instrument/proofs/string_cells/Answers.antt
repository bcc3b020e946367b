-- A case for each test: outside the file's ranges both sides are 0; inside, the sum is at most 2 * 2000 + 2 * 66 + 5.
use native.Mathlib.Omega.{arith}
use borrow.Author.Tests.{le-leb, lt-leb}
use Rattle.instrument.specs.Work.{counted_cells}
use Rattle.instrument.proofs.string_cells.Goals.{then-s-gt2000-via-then-s-gt2000, then-s-gt2000-via-else-s-gt2000+then-s-gt66}
use Rattle.instrument.proofs.string_cells.Goals as goal

pub returns-then-s-gt2000 : goal.returns-then-s-gt2000
unfolding counted_cells
returns-then-s-gt2000 c =
    elim c.then-s-gt2000.branch [
      | then-s-gt2000-via-then-s-gt2000 w ↦ (rw (lt-leb _ _ w.if-s-gt2000.true), omega arith)
      | then-s-gt2000-via-else-s-gt2000+then-s-gt66 w ↦ (rw (le-leb _ _ w.if-s-gt2000.false, lt-leb _ _ w.if-s-gt66.true), omega arith)
    ]

pub returns : goal.returns
unfolding counted_cells
returns c = (rw (le-leb _ _ c.if-s-gt2000.false, le-leb _ _ c.if-s-gt66.false), omega arith)
