-- What the library's chains over a score find, in the words of the score's definitions. Assumes nothing.
use Rattle.std.specs.Prelude.{◌≡◌, refl, Bool, true, false, cond, ◌&&◌, List, [], ◌∷◌, ℕ, zero, suc, ◌+◌, ◌<◌, ◌≤◌, length, get_or, Float, Some, eqb, leb, ltb}
use Rattle.std.specs.Bool.{MatchBool}
use Rattle.std.specs.List.{list_all, prefix_len, IsAllAdjacentAnswer}
use Rattle.std.proofs.Common.{sym, ◌∙◌, ap, arith, one-add, add-one, Less, Equal, Greater, le-leb, eqb-true, ltb-true, ltb-false}
use Rattle.std.proofs.lemmas.Bool.{lt-leb, eqb-false}
use Rattle.std.specs.Ordering.{is_le, is_some_and, nat_cmp, partial_ordering_then}
use Rattle.score.specs.declared.Event.{Event}
use Rattle.score.specs.declared.Event.TheVariants.{NoteOn, NoteOff, Pedal, HandDamp}
use Rattle.score.specs.declared.TimedEvent.{TimedEvent}
use Rattle.score_edits.specs.Edits.{may_precede, sound_velocity, sound_event, sound_after, sound_after_to, sound_score, sound_score_to, place_of}

pub no_strike : (e : Event) → ((k : ℕ) (v : Float) → e ≡ NoteOn k v → ⊥) → true ≡ sound_velocity e
unfolding sound_velocity
no_strike (NoteOn k v) h = absurd (h k v refl)
no_strike (NoteOff k) h = refl
no_strike (Pedal d) h = refl
no_strike (HandDamp k) h = refl

-- the place is how many of the first may precede the event
pub place_is : (l : List TimedEvent) (e : TimedEvent) → prefix_len (λ x. may_precede x e) l ≡ place_of l e
unfolding place_of
place_is [] e = refl
place_is (x ∷ xs) e = go (may_precede x e) (place_is xs e)
  where
    go : (b : Bool) → prefix_len (λ y. may_precede y e) xs ≡ place_of xs e
        → cond b (1 + prefix_len (λ y. may_precede y e) xs) 0 ≡ cond b (suc (place_of xs e)) 0
    go true h = one-add _ ∙ ap suc h
    go false h = refl

-- whether each event may follow the one before it
abbrev in_order : TimedEvent → List TimedEvent → Bool
in_order x [] = true
in_order x (y ∷ ys) = may_precede x y && in_order y ys

abbrev in_order_all : List TimedEvent → Bool
in_order_all [] = true
in_order_all (x ∷ xs) = in_order x xs

swap : (a b c d : Bool) → ((a && c) && (b && d)) ≡ ((a && b) && (c && d))
swap true b true d = refl
swap true true false d = refl
swap true false false d = refl
swap false b c d = refl

after_is : (x : TimedEvent) (l : List TimedEvent) → (in_order x l && list_all sound_event l) ≡ sound_after x l
unfolding sound_after_to
after_is x [] = refl
after_is x (y ∷ ys) = swap (may_precede x y) (sound_event y) (in_order y ys) (list_all sound_event ys)
    ∙ ap (λ b. (may_precede x y && sound_event y) && b) (after_is y ys)

turn : (a b c : Bool) → (a && (b && c)) ≡ (b && (a && c))
turn true true c = refl
turn true false c = refl
turn false true c = refl
turn false false c = refl

score_is : (l : List TimedEvent) → (in_order_all l && list_all sound_event l) ≡ sound_score l
unfolding sound_score_to
score_is [] = refl
score_is (x ∷ xs) = turn (in_order x xs) (sound_event x) (list_all sound_event xs) ∙ ap (λ b. sound_event x && b) (after_is x xs)

abbrev Neighbours : List TimedEvent → Bool → Type 0
Neighbours l r = IsAllAdjacentAnswer (λ x y b. b ≡ may_precede x y) l r

all_ordered : (x : TimedEvent) (l : List TimedEvent)
    → ((k : ℕ) (d : TimedEvent) → suc k < length (x ∷ l) → true ≡ may_precede (get_or (x ∷ l) k d) (get_or (x ∷ l) (suc k) d)) → true ≡ in_order x l
all_ordered x [] h = refl
all_ordered x (y ∷ ys) h =
    let first : may_precede x y ≡ true = sym (h 0 x (omega arith)) in
    rw first (all_ordered y ys (λ k d l. h (suc k) d (omega arith)))

not_ordered : (x : TimedEvent) (l : List TimedEvent) (k : ℕ) → suc k < length (x ∷ l)
    → ((d : TimedEvent) → false ≡ may_precede (get_or (x ∷ l) k d) (get_or (x ∷ l) (suc k) d)) → false ≡ in_order x l
not_ordered x [] k h e = absurd (omega arith)
not_ordered x (y ∷ ys) zero h e = let first : false ≡ may_precede x y = e x in ap (λ b. b && in_order y ys) first
not_ordered x (y ∷ ys) (suc k) h e = go (may_precede x y) (not_ordered y ys k (omega arith) (λ d. e d))
  where
    go : (b : Bool) → false ≡ in_order y ys → false ≡ (b && in_order y ys)
    go true f = f
    go false f = refl

order_is : (l : List TimedEvent) (r : Bool) → Neighbours l r → r ≡ in_order_all l
order_is [] true h = refl
order_is [] false h = absurd (let m : h.0 + 1 < 0 = h.1 in omega arith)
order_is (x ∷ xs) true h = all_ordered x xs (λ k d l. rw (add-one k) at (h k d (omega arith)))
order_is (x ∷ xs) false h = not_ordered x xs h.0 (omega (arith, h.1)) (λ d. rw (add-one h.0) at (h.2 d))

pub score_sound : (l : List TimedEvent) (r a : Bool) → Neighbours l r → a ≡ list_all sound_event l → (r && a) ≡ sound_score l
score_sound l r a h e = rw (order_is l r h, e) (score_is l)

-- two positions and two ranks, compared as the library compares pairs
pub pairs_are : (a b c d : ℕ) → is_some_and is_le (partial_ordering_then (Some (nat_cmp a c)) (Some (nat_cmp b d))) ≡ cond (eqb a c) (leb b d) (ltb a c)
pairs_are a b c d = first (ltb a c) refl (eqb a c) refl
  where
    second : (l e : Bool) → ltb b d ≡ l → eqb b d ≡ e → is_some_and is_le (Some (cond l Less (cond e Equal Greater))) ≡ leb b d
    second true e h g = sym (le-leb b d (omega (arith, ltb-true b d h)))
    second false true h g = sym (le-leb b d (omega (arith, eqb-true b d g)))
    second false false h g = sym (lt-leb b d (omega (arith, ltb-false b d h, eqb-false b d g)))

    first : (l : Bool) → ltb a c ≡ l → (e : Bool) → eqb a c ≡ e
        → is_some_and is_le (partial_ordering_then (Some (cond l Less (cond e Equal Greater))) (Some (nat_cmp b d))) ≡ cond e (leb b d) l
    first true h true g = absurd (omega (arith, ltb-true a c h, eqb-true a c g))
    first true h false g = refl
    first false h true g = second (ltb b d) (eqb b d) refl refl
    first false h false g = refl
