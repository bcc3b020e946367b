-- Each element is what its call gives, and calls change nothing: `items_made`. Assumes nothing.
use Rattle.std.proofs.Common.{rules}
use Rattle.session_words.proofs.Steps.{items_made}
use Rattle.session_words.proofs.words.items_at.Goals as goal

pub returns : goal.returns
returns g c =
    let z = c.args in
    items_made g.T.Words.value_of g.T.Words.SIZE _ _ z.at z.words.now (λ i y q k. search rules) _ _ c.from_fn.ensures.items
