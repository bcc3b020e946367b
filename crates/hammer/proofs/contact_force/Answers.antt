-- `hammer::contact_force` meets its contract: its force is the search's, and the law of the bound holds of that. Assumes nothing.
use mathlib.Core.Path.{sym, subst}
use lib.Ieee.{Float}
use Rattle.hammer.specs.Contact.{ForceBound}
use Rattle.hammer.proofs.Bound.{force_bound}
use Rattle.hammer.proofs.contact_force.Goals as goal

pub returns : goal.returns
returns c =
    let a = c.args in
    let e = c.search_force.ensures in
    (e, subst (λ (f : Float). ForceBound a.c0 a.c1 f) (sym e) (force_bound a.hammer a.eps_r a.c0 a.c1))
