-- Where the key is there, its place is below 16, and the record with that key set is the definition's; else nothing changes.
use mathlib.Core.Path.{sym, ◌∙◌}
use native.Mathlib.Omega.{arith}
use Rattle.weights.specs.Weights.{key_weighted, weighted_at}
use Rattle.weights.specs.Laws.{there_few, there_index, weighted_there, weighted_none}
use Rattle.weights.proofs.Pairs.{found, not_found}
use Rattle.weights.proofs.set_weight.Goals as goal

pub offset_bounds-instrument-at : goal.offset_bounds-instrument-at
offset_bounds-instrument-at c =
    let z = c.args in
    let at = found z.i z.key _ (sym c.place_of.ensures ∙ c.in-Some.is) in
    omega (arith, at.1, there_few z.i z.key at.0, there_index z.i z.key at.0)

pub bounds-instrument-at : goal.bounds-instrument-at
bounds-instrument-at c =
    let z = c.args in
    let at = found z.i z.key _ (sym c.place_of.ensures ∙ c.in-Some.is) in
    omega (arith, at.1, there_few z.i z.key at.0, there_index z.i z.key at.0)

pub returns-in-Some : goal.returns-in-Some
unfolding weighted_at key_weighted
returns-in-Some c =
    let z = c.args in
    let at = found z.i z.key _ (sym c.place_of.ensures ∙ c.in-Some.is) in
    rw at.1 (sym (weighted_there z.i z.key at.0 z.weight))

pub returns-in_default : goal.returns-in_default
returns-in_default c =
    let z = c.args in
    sym (weighted_none z.i z.key (not_found z.i z.key (sym c.place_of.ensures ∙ c.in_default.is)) z.weight)
