-- The fold over the taps' numbers is the definition's recursion.
use mathlib.Core.Path.{refl, ◌∙◌}
use Rattle.std.proofs.Common.{rules}
use Rattle.std.proofs.lemmas.Iterator.{YieldsList-from_range}
use Rattle.std.proofs.lemmas.Iterator.Consumers.{fold_from_yields_List}
use Rattle.decimator.specs.Decimate.{weighed}
use Rattle.decimator.proofs.Cases.{tap_sum_fold}
use Rattle.decimator.proofs.filtered_at.Goals as goal

pub returns : goal.returns
returns c =
    let a = c.args in
    fold_from_yields_List _ (λ s k. weighed a.x.now a.taps.now a.at k s) _ _ c.fold.ensures.ran
    (YieldsList-from_range 0 127 127 refl refl) (λ s k r q e. search rules)
    ∙ tap_sum_fold a.x.now a.taps.now a.at 127
