-- `energies::line_energy` meets its contract: the fold adds the cells' squares one by one. Assumes nothing.
use mathlib.Core.Path.{◌≡◌, refl, sym, ap, subst, ◌∙◌}
use mathlib.Core.List.{List, map}
use borrow.Author.Rules.{rules}
use lib.Ieee.{Float, binary64, add}
use Rattle.std.proofs.lemmas.Fn.{fold_over, fronts, slice_gives}
use Rattle.float.specs.Float.{zero as +0}
use Rattle.energies.specs.Energy.{sum_from, square}
use Rattle.energies.proofs.Sums.{line_more}
use Rattle.energies.proofs.line_energy.Goals as goal

pub returns : goal.returns
unfolding sum_from
returns c =
    subst (λ (l : List Float). c.fold.result ≡ sum_from +0 (map square l)) c.iter.ensures.rest
    (fold_over fronts (λ y. y.now) _ (λ (cells : List Float) (sum : Float). sum ≡ sum_from +0 (map square cells)) _
    (λ cells a x b f' j k.
    let e : b ≡ add binary64 a (square x.now) = search rules in
    (e ∙ ap (λ (s : Float). add binary64 s (square x.now)) j ∙ sym (line_more +0 cells x.now), search rules))
    c.iter.result _ _ _ (slice_gives c.iter.result) refl c.fold.ensures.ran)
