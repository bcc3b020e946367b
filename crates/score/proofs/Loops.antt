-- The loop over events, one turn each.
use mathlib.Core.Path.{◌≡◌, sym, ap, ◌∙◌}
use mathlib.Core.List.{List, [], ◌∷◌}
use Prim.Native.Nat.{ℕ, suc, ◌+◌, ◌≤◌, ◌<◌}
use native.Mathlib.Numerals.{add-one}
use borrow.Author.Tests.{eq-eqb, ne_eqb}
use lib.ListN.{length, drop, get_or, drop_of_length-le}
use lib.Seq.{drop-cons}
use Rattle.instrument.specs.declared.Instrument.{Instrument}
use Rattle.string.specs.declared.StringDesign.{StringDesign}
use Rattle.score.specs.declared.TimedEvent.{TimedEvent}
use Rattle.score.specs.Events.{State, applied, apply_all}
use Rattle.score.specs.Score.{no_event, events_at}

-- the events from i on that act at t give what all of them give
module _ (i : Instrument) (ds : List StringDesign) (es : List TimedEvent) (t : ℕ) (s₀ : State) where
  pub record Acted (s : State) (k : ℕ) : Type 0 where
    pub rest : apply_all i ds (events_at (drop k es) t) s ≡ apply_all i ds (events_at es t) s₀

  module _ (s : State) (k : ℕ) (a : Acted s k) (h : k < length es) (e : TimedEvent) (he : get_or es k no_event ≡ e) where
    rest_is : drop k es ≡ e ∷ drop (k + 1) es
    rest_is = drop-cons es k no_event h ∙ ap (λ (x : TimedEvent). x ∷ drop (suc k) es) he ∙ ap (λ (n : ℕ). e ∷ drop n es) (sym (add-one k))

    pub acted_now : e.position ≡ t → (s' : State) → s' ≡ applied i ds e.event s → Acted s' (k + 1)
    unfolding apply_all events_at
    acted_now p s' q =
        let after = applied i ds e.event s in
        let z : apply_all i ds (events_at (drop k es) t) s ≡ apply_all i ds (events_at (drop (k + 1) es) t) after = rw (rest_is, eq-eqb e.position t p) in
        record { rest = rw q (sym z ∙ a.rest) }

    pub acted_other : (e.position ≡ t → ⊥) → Acted s (k + 1)
    unfolding events_at
    acted_other p =
        let z : apply_all i ds (events_at (drop k es) t) s ≡ apply_all i ds (events_at (drop (k + 1) es) t) s = rw (rest_is, ne_eqb e.position t p) in
        record { rest = sym z ∙ a.rest }

  pub acted_end : (s : State) (k : ℕ) → Acted s k → length es ≤ k → s ≡ apply_all i ds (events_at es t) s₀
  unfolding apply_all events_at
  acted_end s k a h =
      let z : drop k es ≡ [] = drop_of_length-le es h in
      rw z at a.rest
