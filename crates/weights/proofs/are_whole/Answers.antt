-- Both tests are the definition's.
use mathlib.Core.Path.{ap, ◌∙◌}
use mathlib.Core.Bool.{Bool, ◌&&◌}
use lib.Dec.{eqb}
use lib.ListN.{length}
use Rattle.weights.proofs.Pairs.{whole_is}
use Rattle.weights.proofs.are_whole.Goals as goal

pub returns : goal.returns
returns c =
    let keys = c.args.keys.now in
    let weights = c.args.weights.now in
    ap (λ (t : Bool). eqb (length keys) (length weights) && t) c.has_keys.ensures ∙ whole_is c.args.i keys weights
