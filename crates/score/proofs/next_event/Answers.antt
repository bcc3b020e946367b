-- `score::next_event` meets its contract: the chain yields the positions from `from` on, and `min` their least. Assumes nothing.
use Rattle.std.proofs.Common.{◌≡◌, ℕ, refl, rules, ◌∙◌}
use Rattle.std.specs.Prelude.{Option, None, Some, option_map, nat_le}
use borrow.Author.Tests.{tests}
use Rattle.std.proofs.lemmas.Iterator.{YieldsList-from_slice, YieldsList-from_map}
use Rattle.std.proofs.lemmas.Iterator.Consumers.{YieldsList-from_filter, min_from_yields_List}
use Rattle.score.specs.declared.TimedEvent.{TimedEvent}
use Rattle.score.proofs.next_event.Goals as goal

as_it_is : (r : Option ℕ) → r ≡ option_map (λ x. x) r
as_it_is None = refl
as_it_is (Some n) = refl

pub returns : goal.returns
returns c =
    as_it_is c.min.result
    ∙ min_from_yields_List _ _ c.min.ensures.ran
    (YieldsList-from_filter _ (λ p. nat_le c.args.from p)
    (YieldsList-from_map _ (λ (e : TimedEvent). e.position) (YieldsList-from_slice c.args.events.now cc) c.map.ensures.closure (λ x r q k. search rules))
    c.filter.ensures.closure (λ x b q k. search (rules, tests)))
