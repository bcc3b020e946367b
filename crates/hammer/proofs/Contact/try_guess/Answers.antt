-- A force is found only where the felt's test agreed at both ends, which is what the lemma `found` asks. Assumes nothing.
use mathlib.Core.Path.{sym, subst}
use lib.Dec.{T}
use lib.Ieee.{binary64, fits}
use Rattle.hammer.specs.Contact.{middle}
use Rattle.hammer.proofs.Found.{found}
use Rattle.hammer.proofs.Contact.try_guess.Goals as goal

pub returns-else-is_too_low : goal.returns-else-is_too_low
unfolding middle
returns-else-is_too_low c =
    let a = c.args.self in
    let ends = c.bisect_by_guess-ends in
    let c0-fits : T (fits binary64 a.c0) = subst T (sym c.well_formed.0.1.1.1.1.0.1) tt in
    let top-fits : T (fits binary64 c.args.top) = subst T (sym c.well_formed.1.0.1) tt in
    found a.hammer a.eps_r a.c0 a.c1 c.args.top c.requires c0-fits top-fits c.args.guess ends.result.lo ends.result.hi
    c.is_too_low.result c.is_too_low-else-not-is_too_low.result c.if-guess.true ends.ensures.low ends.ensures.high
    c.is_too_low.ensures c.if-not-is_too_low.false c.is_too_low-else-not-is_too_low.ensures c.if-is_too_low.false
