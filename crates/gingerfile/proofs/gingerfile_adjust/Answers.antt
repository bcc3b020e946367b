-- That an accepted file comes back follows from the first clause, since every element of a slice of bytes is one: `gives_back`. Assumes nothing.
use Rattle.std.proofs.Common.{sym, ap, ◌∙◌}
use Rattle.gingerfile.specs.Adjust.{written_as}
use Rattle.gingerfile.proofs.Returns.{adjust_meets_is, gives_back}
use Rattle.gingerfile.proofs.gingerfile_adjust.Goals as goal

pub returns-in-Ok-clause-gives_back : goal.returns-in-Ok-clause-gives_back
returns-in-Ok-clause-gives_back c =
    let z = c.args in
    gives_back z.file.now z.keys.now z.weights.now (λ p. (c.type_inv.file p).fits)
    (adjust_meets_is z.file.now z.keys.now z.weights.now z.out.now c.adjusted.ensures (c.accepted.ensures ∙ ap written_as (sym c.in-Ok.is)))

pub returns-in-Err-clause-gives_back : goal.returns-in-Err-clause-gives_back
returns-in-Err-clause-gives_back c =
    let z = c.args in
    gives_back z.file.now z.keys.now z.weights.now (λ p. (c.type_inv.file p).fits)
    (adjust_meets_is z.file.now z.keys.now z.weights.now z.out.now c.adjusted.ensures (c.refused_for.ensures ∙ ap written_as (sym c.in-Err.is)))
