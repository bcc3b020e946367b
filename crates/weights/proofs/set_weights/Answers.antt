-- The fold over the pairs is the definition's recursion.
use mathlib.Core.Path.{◌∙◌}
use Rattle.std.proofs.Common.{rules}
use Rattle.std.proofs.lemmas.Iterator.{YieldsList-from_slice, YieldsList-from_zip}
use Rattle.std.proofs.lemmas.Iterator.Consumers.{fold_from_yields_List}
use Rattle.weights.specs.Weights.{weighted}
use Rattle.weights.proofs.Pairs.{by_pairs}
use Rattle.weights.proofs.set_weights.Goals as goal

pub returns : goal.returns
returns c =
    fold_from_yields_List _ (λ x p. weighted x p.0 p.1) _ _ c.fold.ensures.ran
    (YieldsList-from_zip (YieldsList-from_slice c.args.keys.now cc) (YieldsList-from_slice c.args.weights.now cc)) (λ a x b q k. search rules)
    ∙ by_pairs c.args.i c.args.keys.now c.args.weights.now
