-- Document 01, "One sample": "events whose position is not above t". The Rust walks the score once: at each sample it applies, in order,
-- those of the events not yet applied whose position is not above t, up to the first that is later. In a score whose positions do not
-- fall these are the events at t, sample by sample from 0. Assumes nothing.
use Rattle.std.specs.Prelude.{◌≡◌, refl, Bool, true, false, cond, List, [], ◌∷◌, ℕ, zero, suc, ◌≤◌, ◌<◌, eqb, leb}
use Rattle.std.proofs.Common.{sym, ap, ◌∙◌, arith, leb-true, leb-false, eq-eqb, ne_eqb}
use Rattle.score.specs.declared.Event.{Event}
use Rattle.score.specs.declared.TimedEvent.{TimedEvent}
use Rattle.score.specs.Score.{events_at}

-- what the walk applies at sample t, of the events left to it, and what it then leaves
unfoldable pub due : ℕ → List TimedEvent → List Event
due t [] = []
due t (e ∷ es) = cond (leb e.position t) (e.event ∷ due t es) []

unfoldable pub later : ℕ → List TimedEvent → List TimedEvent
later t [] = []
later t (e ∷ es) = cond (leb e.position t) (later t es) (e ∷ es)

-- what is left once samples 0 to t - 1 are done
unfoldable pub left_at : List TimedEvent → ℕ → List TimedEvent
left_at score zero = score
left_at score (suc t) = later t (left_at score t)

-- no position falls, and none is below `from`
unfoldable pub Rising : ℕ → List TimedEvent → Type 0
Rising from [] = Unit {0}
Rising from (e ∷ es) = (from ≤ e.position) × Rising e.position es

-- from a later place on, if the first event is no earlier
rising_from : (from to : ℕ) (es : List TimedEvent) → to ≤ from → Rising from es → Rising to es
unfolding Rising
rising_from from to [] h r = r
rising_from from to (e ∷ es) h r = (omega (arith, r.0), r.1)

-- past the last event at t there is none at t
none_later : (t : ℕ) (es : List TimedEvent) (from : ℕ) → t < from → Rising from es → events_at es t ≡ []
unfolding Rising events_at
none_later t [] from h r = refl
none_later t (e ∷ es) from h r =
    let apart : e.position ≡ t → ⊥ = λ q. omega (arith, r.0) in
    rw (ne_eqb e.position t apart) (none_later t es e.position (omega (arith, r.0)) r.1)

-- where no event left lies below t, the walk applies the events at t and leaves those from t + 1 on
pub due_at : (t : ℕ) (es : List TimedEvent) → Rising t es → (due t es ≡ events_at es t) × Rising (suc t) (later t es)
unfolding Rising due later events_at
due_at t [] r = (refl, tt)
due_at t (e ∷ es) r = by_test (leb e.position t) refl (due_at t es (rising_from e.position t es r.0 r.1))
  where
    by_test : (b : Bool) → leb e.position t ≡ b → (due t es ≡ events_at es t) × Rising (suc t) (later t es)
        → (cond b (e.event ∷ due t es) [] ≡ cond (eqb e.position t) (e.event ∷ events_at es t) (events_at es t))
        × Rising (suc t) (cond b (later t es) (e ∷ es))
    by_test true q rest =
        let same : e.position ≡ t = omega (arith, r.0, leb-true e.position t q) in
        (rw (eq-eqb e.position t same) (ap (λ (l : List Event). e.event ∷ l) rest.0), rest.1)
    by_test false q rest =
        let past : t < e.position = leb-false e.position t q in
        let apart : e.position ≡ t → ⊥ = λ w. omega arith in
        (rw (ne_eqb e.position t apart) (sym (none_later t es e.position past r.1)), (past, r.1))

-- what was left out lies before t, so the events at t are among those left
kept_at : (u t : ℕ) (es : List TimedEvent) → u < t → events_at (later u es) t ≡ events_at es t
unfolding later events_at
kept_at u t [] h = refl
kept_at u t (e ∷ es) h = by_test (leb e.position u) refl (kept_at u t es h)
  where
    by_test : (b : Bool) → leb e.position u ≡ b → events_at (later u es) t ≡ events_at es t
        → events_at (cond b (later u es) (e ∷ es)) t ≡ cond (eqb e.position t) (e.event ∷ events_at es t) (events_at es t)
    by_test true q rest =
        let apart : e.position ≡ t → ⊥ = λ w. omega (arith, leb-true e.position u q) in
        rw (ne_eqb e.position t apart) rest
    by_test false q rest = refl

left_rising : (score : List TimedEvent) (t : ℕ) → Rising 0 score → Rising t (left_at score t)
unfolding left_at
left_rising score zero r = r
left_rising score (suc t) r = (due_at t (left_at score t) (left_rising score t r)).1

left_at_lem : (score : List TimedEvent) (t u : ℕ) → t ≤ u → events_at (left_at score t) u ≡ events_at score u
unfolding left_at
left_at_lem score zero u h = refl
left_at_lem score (suc t) u h = kept_at t u (left_at score t) (omega arith) ∙ left_at_lem score t u (omega arith)

-- THE AGREEMENT: in a score whose positions do not fall, what the Rust's walk applies at sample t are the events at t
pub walk_is : (score : List TimedEvent) (t : ℕ) → Rising 0 score → due t (left_at score t) ≡ events_at score t
walk_is score t r = (due_at t (left_at score t) (left_rising score t r)).0 ∙ left_at_lem score t t (omega arith)
