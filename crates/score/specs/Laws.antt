-- What events keep, which samples have none, and what a sample in contact makes of the keys' counts.
use Rattle.float.specs.Float.{zero as +0}
use Rattle.std.specs.Prelude.{◌≡◌, refl, List, [], ◌∷◌, Bool, cond, ℕ, ◌+◌, ◌≤◌, ◌<◌, ◌^◌, eqb, ltb, length, set, Option, None, Some}
use Rattle.std.specs.Prelude.{IfSome, unwrap_or, option_map, map, filter, min, nat_le, Float}
use Rattle.std.specs.List.{fold, reduce}
use Rattle.std.proofs.Common.{◌∙◌, length-set, leb-true, leb-false}
use Rattle.std.proofs.lemmas.Option.{none-some, same_Some, cond_some}
use Rattle.std.proofs.Math.Bool.{true, false}
use native.Mathlib.Omega.{arith}
use borrow.Author.Tests.{ne_eqb, ltb-true}
use Rattle.cells.specs.Parts.{map_length}
use Rattle.counting.specs.Sums.{sum_of, sum_raised, sum_raised_most, one_within}
use Rattle.string.specs.declared.StringDesign.{StringDesign}
use Rattle.string.specs.String.{size_of, at_yS, at_memory}
use Rattle.strings.specs.Strings.{cells_of}
use Rattle.points.specs.declared.Flight.{Flight}
use Rattle.sample.specs.Sample.{CanCount, counted_for}
use Rattle.instrument.specs.declared.Instrument.{Instrument}
use Rattle.instrument.specs.KeyIndex.{key_index, key_place}
use Rattle.score.specs.declared.Event.{Event}
use Rattle.score.specs.declared.Event.TheVariants.{NoteOn, NoteOff, Pedal, HandDamp}
use Rattle.score.specs.declared.TimedEvent.{TimedEvent}
use Rattle.score.specs.Events.{State, cleared, cleared_one, cleared_all, struck_key, held_to, hand_damped, pedal_to, on_key, applied, apply_all}
use Rattle.score.specs.Score.{events_at, next_from}
use Rattle.score.specs.Contacts.{hammer_on}

-- a string keeps its length when it forgets
pub cleared_length : (k : ℕ) (d : StringDesign) (p : List Float) → length (cleared k d p) ≡ length p
unfolding cleared
cleared_length k d p = by_test (eqb d.key k) where
  by_test : (b : Bool) → length (cond b (set (set p (at_yS d) +0) (at_memory d) +0) p) ≡ length p
  by_test true = simp length-set
  by_test false = refl

-- what a change on a key keeps where there is such a key is kept
on_key_lem : {B : Type 0} (q : State → B) (i : Instrument) (x : ℕ) (f : ℕ → State → State) (s : State) → ((k : ℕ) → q (f k s) ≡ q s) → q (on_key i x f s) ≡ q s
on_key_lem {B} q i x f s h = by_place (key_place i x) where
  by_place : (o : Option ℕ) → q (unwrap_or (option_map (λ k. f k s) o) s) ≡ q s
  by_place (Some k) = h k
  by_place None = refl

-- a key's place is one of the keys'
pub place_there : (i : Instrument) (x k : ℕ) → key_place i x ≡ Some k → ltb k i.key_count ≡ true
place_there i x k e =
    let found = cond_some (ltb (key_index i.keys 0 i.key_count x) i.key_count) (key_index i.keys 0 i.key_count x) k e in
    rw found.1 at found.0

-- no event counts a contact, for any key
applied_count : (i : Instrument) (ds : List StringDesign) (e : Event) (s : State) → (applied i ds e s).piano.contact_samples ≡ s.piano.contact_samples
unfolding applied struck_key held_to hand_damped pedal_to
applied_count i ds (NoteOn x v) s =
    on_key_lem (λ (z : State). z.piano.contact_samples) i x (λ k s. record { piano = struck_key k v s.piano; cells = cleared_all k ds s.cells }) s (λ k. refl)
applied_count i ds (NoteOff x) s = on_key_lem (λ (z : State). z.piano.contact_samples) i x
    (λ k s. record { piano = held_to false k s.piano; cells = s.cells }) s (λ k. refl)
applied_count i ds (Pedal b) s = refl
applied_count i ds (HandDamp x) s = on_key_lem (λ (z : State). z.piano.contact_samples) i x
    (λ k s. record { piano = hand_damped k s.piano; cells = s.cells }) s (λ k. refl)

pub apply_all_count : (i : Instrument) (ds : List StringDesign) (es : List Event) (s : State)
    → (apply_all i ds es s).piano.contact_samples ≡ s.piano.contact_samples
unfolding apply_all
apply_all_count i ds [] s = refl
apply_all_count i ds (e ∷ es) s = apply_all_count i ds es (applied i ds e s) ∙ applied_count i ds e s

-- events keep the number of cells
applied_length : (i : Instrument) (ds : List StringDesign) (e : Event) (s : State) → cells_of ds ≤ length s.cells
    → length (applied i ds e s).cells ≡ length s.cells
unfolding applied
applied_length i ds (NoteOn x v) s h =
    on_key_lem (λ (z : State). length z.cells) i x (λ k s. record { piano = struck_key k v s.piano; cells = cleared_all k ds s.cells }) s
    (λ k. map_length size_of (cleared_one k) (λ j d p e. cleared_length k d p ∙ e) 0 ds s.cells h)
applied_length i ds (NoteOff x) s h = on_key_lem (λ (z : State). length z.cells) i x
    (λ k s. record { piano = held_to false k s.piano; cells = s.cells }) s (λ k. refl)
applied_length i ds (Pedal b) s h = refl
applied_length i ds (HandDamp x) s h = on_key_lem (λ (z : State). length z.cells) i x
    (λ k s. record { piano = hand_damped k s.piano; cells = s.cells }) s (λ k. refl)

pub apply_all_length : (i : Instrument) (ds : List StringDesign) (es : List Event) (s : State) → cells_of ds ≤ length s.cells
    → length (apply_all i ds es s).cells ≡ length s.cells
unfolding apply_all
apply_all_length i ds [] s h = refl
apply_all_length i ds (e ∷ es) s h =
    let n = applied_length i ds e s h in
    apply_all_length i ds es (applied i ds e s) (omega (arith, n)) ∙ n

-- ---- the next event's position

-- the least of the numbers a and xs is at most a
min_first : (a : ℕ) (xs : List ℕ) → fold min a xs ≤ a
min_first a [] = omega arith
min_first a (x ∷ xs) = omega (arith, min_first (min a x) xs)

-- and goes up with a
min_rises : (a b : ℕ) (xs : List ℕ) → a ≤ b → fold min a xs ≤ fold min b xs
min_rises a b [] h = h
min_rises a b (x ∷ xs) h = min_rises (min a x) (min b x) xs (omega arith)

-- it is no lower than all of them are
min_low : (low a : ℕ) (xs : List ℕ) → low ≤ a → low ≤ fold min a (filter (λ p. nat_le low p) xs)
min_low low a [] h = h
min_low low a (x ∷ xs) h = by_test (nat_le low x) refl (min_low low (min a x) xs) (min_low low a xs h)
  where
    by_test : (b : Bool) → nat_le low x ≡ b → (low ≤ min a x → low ≤ fold min (min a x) (filter (λ p. nat_le low p) xs))
        → low ≤ fold min a (filter (λ p. nat_le low p) xs)
        → low ≤ fold min a (cond b (x ∷ filter (λ p. nat_le low p) xs) (filter (λ p. nat_le low p) xs))
    by_test true e more rest = more (omega (arith, leb-true low x e))
    by_test false e more rest = rest

abbrev positions : List TimedEvent → List ℕ
positions es = map (λ e. e.position) es

-- it does not lie before `from`
next_of : (from n : ℕ) (ps : List ℕ) → reduce min (filter (λ p. nat_le from p) ps) ≡ Some n → from ≤ n
next_of from n [] e = absurd (none-some n e)
next_of from n (p ∷ ps) e = by_test (nat_le from p) refl e (next_of from n ps)
  where
    rest : List ℕ
    rest = filter (λ p. nat_le from p) ps

    by_test : (b : Bool) → nat_le from p ≡ b → reduce min (cond b (p ∷ rest) rest) ≡ Some n → (reduce min rest ≡ Some n → from ≤ n) → from ≤ n
    by_test true q e left = omega (arith, min_low from p ps (leb-true from p q), same_Some _ n e)
    by_test false q e left = left e

pub next_after : (es : List TimedEvent) (from n : ℕ) → next_from es from ≡ Some n → from ≤ n
next_after es from n e = next_of from n (positions es) e

-- no event lies at t, from `from` on, where the next one lies behind t
pub none_at : (es : List TimedEvent) (from t : ℕ) → from ≤ t → IfSome (next_from es from) (λ n. t < n) → events_at es t ≡ []
unfolding events_at
none_at [] from t h l = refl
none_at (e ∷ es) from t h l = by_test (nat_le from e.position) refl l (none_at es from t h)
  where
    rest : List ℕ
    rest = filter (λ p. nat_le from p) (positions es)

    left : (xs : List ℕ) → t < fold min e.position xs → IfSome (reduce min xs) (λ n. t < n)
    left [] l = tt
    left (x ∷ xs) l = omega (arith, min_rises (min e.position x) x xs (omega arith), l)

    by_test : (b : Bool) → nat_le from e.position ≡ b → IfSome (reduce min (cond b (e.position ∷ rest) rest)) (λ n. t < n)
        → (IfSome (reduce min rest) (λ n. t < n) → events_at es t ≡ []) → cond (eqb e.position t) (e.event ∷ events_at es t) (events_at es t) ≡ []
    by_test true q l none =
        let apart : e.position ≡ t → ⊥ = λ w. omega (arith, min_first e.position rest, l) in
        rw (ne_eqb e.position t apart) (none (left rest l))
    by_test false q l none =
        let apart : e.position ≡ t → ⊥ = λ w. omega (arith, leb-false from e.position q) in
        rw (ne_eqb e.position t apart) (none l)

-- ---- the keys' counts

module _ (keys : ℕ) where
  -- the sum goes up by one in contact, where only a hammer that flies is in contact, and on a key that is there
  pub counted_sum : (h : Option Flight) (contact : Bool) (counts : List ℕ) → hammer_on keys h ≡ true → keys ≤ length counts → (h ≡ None → contact ≡ false)
      → sum_of keys (counted_for h contact counts) ≡ sum_of keys counts + cond contact 1 0
  unfolding counted_for hammer_on
  counted_sum None contact counts on few none = rw (none refl) (omega arith)
  counted_sum (Some h) true counts on few none = let there = ltb-true h.key_index keys on in sum_raised counts h.key_index keys there (omega arith)
  counted_sum (Some h) false counts on few none = omega arith

  -- and by one at most, whatever is true of the hammer
  pub counted_most : (h : Option Flight) (contact : Bool) (counts : List ℕ) → sum_of keys (counted_for h contact counts) ≤ sum_of keys counts + 1
  unfolding counted_for
  counted_most None contact counts = omega arith
  counted_most (Some h) true counts = sum_raised_most counts h.key_index keys
  counted_most (Some h) false counts = omega arith

  -- where the sum can go up by one, so can the count of the hammer's key
  pub can_count : (h : Option Flight) (counts : List ℕ) → hammer_on keys h ≡ true → keys ≤ 16 → sum_of keys counts + 1 < 2 ^ 64 → CanCount counts h
  unfolding CanCount hammer_on
  can_count None counts on few low = tt
  can_count (Some h) counts on few low = let there = ltb-true h.key_index keys on in (omega arith, omega (arith, one_within counts keys h.key_index there))

-- there are as many counts as before
pub counted_length_lem : (h : Option Flight) (contact : Bool) (counts : List ℕ) → length (counted_for h contact counts) ≡ length counts
unfolding counted_for
counted_length_lem None contact counts = refl
counted_length_lem (Some h) true counts = simp length-set
counted_length_lem (Some h) false counts = refl
