-- What the library's chains over the slots find, in the words of the set of positions. Assumes nothing.
use Rattle.std.specs.Prelude.{◌≡◌, refl, Bool, true, false, cond, not, ◌&&◌, ◌||◌, List, [], ◌∷◌, ◌++◌, map, take, drop, set, get_or, ℕ, zero, suc}
use Rattle.std.specs.Prelude.{◌<◌, ◌+◌, max, leb, ltb, length, filter, fold, position, Option, None, Some}
use Rattle.std.specs.Option.{is_some}
use Rattle.std.specs.List.{count_by, reduce}
use Rattle.std.specs.Option.{option_map, unwrap_or}
use Rattle.std.proofs.lemmas.List.{length-append, length-map, length-take, length-drop, get_or_default}
use Rattle.std.proofs.lemmas.List.Edits.{map_over_more}
use Rattle.std.proofs.lemmas.List.Sums.{length-filter}
use Rattle.std.proofs.Common.{sym, ◌∙◌, ap, arith}
use Rattle.positions.specs.Positions.{count, is_in, above, up_to, greatest}
use Rattle.positions.specs.Laws.{true_or_false}
use Rattle.session_cues.specs.declared.Cue.{Cue}
use Rattle.session_cues.specs.Cues.{kept_of, stands_at, slot_at, sound_cue, sound_cues, sound_cues_to}

count_lost : (q : ℕ) (cs : List Cue) → length (filter (λ (c : Cue). c.kept && ltb q c.position) cs) ≡ above q (kept_of cs)
unfolding kept_of count
count_lost q [] = refl
count_lost q (c ∷ cs) = go c.kept (ltb q c.position) refl (count_lost q cs)
  where
    go : (k b : Bool) → ltb q c.position ≡ b → length (filter (λ (c : Cue). c.kept && ltb q c.position) cs) ≡ above q (kept_of cs)
        → length (cond (k && b) (c ∷ filter (λ (c : Cue). c.kept && ltb q c.position) cs) (filter (λ (c : Cue). c.kept && ltb q c.position) cs))
        ≡ above q (cond k (c.position ∷ kept_of cs) (kept_of cs))
    go true true e ih = rw e (ap suc ih)
    go true false e ih = rw e ih
    go false b e ih = ih

-- the positions kept in the slots, up to p
pub kept_to_is : (p : ℕ) (cs : List Cue) → map (λ (c : Cue). c.position) (filter (λ (c : Cue). c.kept && leb c.position p) cs) ≡ up_to p (kept_of cs)
unfolding kept_of up_to
kept_to_is p [] = refl
kept_to_is p (c ∷ cs) = go c.kept (leb c.position p) refl (kept_to_is p cs)
  where
    go : (k b : Bool) → leb c.position p ≡ b → map (λ (c : Cue). c.position) (filter (λ (c : Cue). c.kept && leb c.position p) cs) ≡ up_to p (kept_of cs)
        → map (λ (c : Cue). c.position) (cond (k && b) (c ∷ filter (λ (c : Cue). c.kept && leb c.position p) cs)
        (filter (λ (c : Cue). c.kept && leb c.position p) cs))
        ≡ up_to p (cond k (c.position ∷ kept_of cs) (kept_of cs))
    go true true e ih = rw e (ap (λ l. c.position ∷ l) ih)
    go true false e ih = rw e ih
    go false b e ih = ih

-- the greatest of 0 and some numbers, as the library reduces a list
fold_greatest : (a : ℕ) (l : List ℕ) → fold max a l ≡ max a (greatest l)
unfolding greatest
fold_greatest a [] = omega arith
fold_greatest a (x ∷ xs) = omega (arith, fold_greatest (max a x) xs)

pub greatest_is : (r : Option ℕ) (l : List ℕ) → option_map (λ x. x) r ≡ reduce max l → unwrap_or r 0 ≡ greatest l
unfolding greatest
greatest_is None [] e = refl
greatest_is (Some r) [] e = absurd (let z : ⊥ = cc in z)
greatest_is None (x ∷ xs) e = absurd (let z : ⊥ = cc in z)
greatest_is (Some r) (x ∷ xs) e = let z : r ≡ fold max x xs = cc in z ∙ fold_greatest x xs

-- one slot more of those that a loop writes
pub map_turn : (f : Cue → Cue) (xs ys : List Cue) (i : ℕ) (d : Cue) → i < length xs → ys ≡ map f (take i xs) ++ drop i xs
    → set ys i (f (get_or ys i d)) ≡ map f (take (i + 1) xs) ++ drop (i + 1) xs
map_turn f xs ys i d h e =
    map_over_more f xs ys i (get_or ys i d) h e
    (get_or_default ys i d (get_or ys i d)
    (omega (arith, ap length e, simp (length-append, length-map, length-take, length-drop) at (ap length e))))

pub lost_is : (q : ℕ) (cs : List Cue) → count_by (λ (c : Cue). c.kept && ltb q c.position) cs ≡ above q (kept_of cs)
lost_is q cs = sym (length-filter (λ (c : Cue). c.kept && ltb q c.position) cs) ∙ count_lost q cs

-- the test of the first slot left, and what it leaves to the later ones
module _ (keys : ℕ) (left : List Cue) (c : Cue) (cs : List Cue) (e : left ≡ c ∷ cs)
    (alone again : Bool) (ea : alone ≡ sound_cue keys c) (eg : again ≡ is_in c.position (kept_of cs)) where
  sound_if : sound_cues keys left ≡ ((alone && not (c.kept && again)) && sound_cues keys cs)
  unfolding sound_cues_to
  sound_if = rw (e, ea, eg)

  pub wrong_here : (c.kept && again || not alone) ≡ true → false ≡ sound_cues keys left
  wrong_here h = sym (sound_if ∙ go alone (c.kept && again) h)
    where
      go : (a b : Bool) → (b || not a) ≡ true → ((a && not b) && sound_cues keys cs) ≡ false
      go true true h = refl
      go true false h = true_or_false false h refl
      go false b h = refl

  pub sound_here : (c.kept && again || not alone) ≡ false → sound_cues keys cs ≡ sound_cues keys left
  sound_here h = sym (sound_if ∙ go alone (c.kept && again) h)
    where
      go : (a b : Bool) → (b || not a) ≡ false → ((a && not b) && sound_cues keys cs) ≡ sound_cues keys cs
      go true false h = refl
      go true true h = true_or_false true refl h
      go false true h = true_or_false true refl h
      go false false h = true_or_false true refl h

pub none_left : (keys : ℕ) (left : List Cue) → length left ≡ 0 → true ≡ sound_cues keys left
unfolding sound_cues_to
none_left keys [] h = refl
none_left keys (c ∷ cs) h = absurd (omega arith)
