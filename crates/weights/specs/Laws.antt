-- What setting a weight leaves and what it decides. No key comes or goes (`has_same`); of two weights for one key the
-- later stands (`later_stands`); and a record that an accepted file gives
-- stays one exactly where the weight is in its range (`weighted_valid`, for all pairs `whole_valid`), so that a
-- writer's 7 then says that it is not. Assumes nothing.
use Rattle.std.specs.Prelude.{◌≡◌, Bool, false, ◌&&◌, eqb, get_or, set, Float}
use Rattle.std.proofs.Math.Path.{refl, ap}
use Rattle.std.proofs.Common.{sym, ◌∙◌, ⊎_elim, le_refl, eq-or-lt_of_le, le_of_suc-le-suc, arith, get_or-set_same, get_or-set_other, set-set}
use Rattle.std.proofs.Math.Bool.{true, and-true}
use mathlib.Core.List.{List, [], ◌∷◌}
use Prim.Native.Nat.{ℕ, zero, suc, ◌+◌, ◌-◌, ◌≤◌, ◌<◌}
use Rattle.std.proofs.Math.Dec.{leb, ltb}
use Rattle.std.proofs.Math.ListN.{length, get_or-eq_default}
use Rattle.std.specs.Float.{nan}
use borrow.Author.Tests.{leb-true, ltb-true}
use Rattle.counting.specs.Every.{every, every_after, and_left, and_right, holds}
use Rattle.counting.specs.Below.{all_below}
use Rattle.counting.specs.Laws.{lt_or_ge, all_at, all_build, all_cong, sum_cong}
use Rattle.instrument_fields.specs.declared.KeyDesign.{KeyDesign}
use Rattle.instrument_fields.specs.Ranges.{key_in_range}
use Rattle.instrument_fields.specs.Unused.{is_no_key}
use Rattle.instrument.specs.declared.Instrument.{Instrument}
use Rattle.instrument.specs.Valid.{past_key, key_at, keys_in_range, string_sum, new_key, keys_apart, keys_unused, counted, keys_valid, strings_valid, valid}
use Rattle.instrument.specs.ValidLaws.{key_in_range_lem, some_strings, keys_ranges}
use Rattle.instrument.specs.KeyIndex.{key_index}
use Rattle.weights.specs.Weights.{index_of, has_key, weight_in_range, key_weighted, weighted_at, weighted, weighted_by, whole_pairs}

-- ---- tests of which all but one hold: that one decides

after_decides : (t : Bool) (l : List Bool) → ((j : ℕ) → get_or l j true ≡ true) → every_after t l ≡ t
unfolding every_after
after_decides t [] h = refl
after_decides t (u ∷ l) h = ap (λ (v : Bool). every_after (t && v) l) (h 0) ∙ after_decides (t && true) l (λ j. h (suc j)) ∙ and-true t

one_decides : (l : List Bool) → every l ≡ true → (k : ℕ) (t : Bool) → k < length l → every (set l k t) ≡ t
unfolding every every_after
one_decides l h = go l (holds l h)
  where
    go : (l : List Bool) → ((j : ℕ) → get_or l j true ≡ true) → (k : ℕ) (t : Bool) → k < length l → every_after true (set l k t) ≡ t
    go [] h k t q = absurd (omega arith)
    go (u ∷ l) h zero t q = after_decides t l (λ j. h (suc j))
    go (u ∷ l) h (suc k) t q = ap (λ (v : Bool). every_after v (set l k t)) (h 0) ∙ go l (λ j. h (suc j)) k t (omega arith)

below_decides : (P : ℕ → Bool) (n k : ℕ) → k < n → ((j : ℕ) → j < n → (j ≡ k → ⊥) → P j ≡ true) → all_below n P ≡ P k
unfolding all_below
below_decides P zero k q h = absurd (omega arith)
below_decides P (suc n) k q h =
    ⊎_elim
    (λ (e : k ≡ n). ap (λ (t : Bool). t && P n) (all_build n P (λ j l. h j (omega arith) (λ z. omega arith))) ∙ ap P (sym e))
    (λ (l : k < n).
    ap (λ (t : Bool). all_below n P && t) (h n (le_refl (suc n)) (λ z. omega arith))
    ∙ and-true (all_below n P)
    ∙ below_decides P n k l (λ j b. h j (omega arith)))
    (eq-or-lt_of_le (le_of_suc-le-suc q))

-- ---- keys of which one is set

-- what a setting leaves of its key it leaves of every key
set_leaves : {A : Type 0} (f : KeyDesign → A) (keys : List KeyDesign) (k : ℕ) (d : KeyDesign) → f d ≡ f (key_at keys k)
    → (j : ℕ) → f (key_at (set keys k d) j) ≡ f (key_at keys j)
set_leaves f [] k d e j = refl
set_leaves f (x ∷ keys) zero d e zero = e
set_leaves f (x ∷ keys) zero d e (suc j) = refl
set_leaves f (x ∷ keys) (suc k) d e zero = refl
set_leaves f (x ∷ keys) (suc k) d e (suc j) = set_leaves f keys k d e j

module _ (keys : List KeyDesign) (k : ℕ) (w : Float) where
  abbrev key_after : KeyDesign
  key_after = key_weighted (key_at keys k) w

  abbrev keys_after : List KeyDesign
  keys_after = set keys k key_after

  leaves_number : (j : ℕ) → (key_at keys_after j).key ≡ (key_at keys j).key
  unfolding key_weighted
  leaves_number = set_leaves (λ d. d.key) keys k key_after refl

  leaves_strings : (j : ℕ) → (key_at keys_after j).strings ≡ (key_at keys j).strings
  unfolding key_weighted
  leaves_strings = set_leaves (λ d. d.strings) keys k key_after refl

  leaves_index : (n j x : ℕ) → key_index keys_after j n x ≡ key_index keys j n x
  unfolding key_index
  leaves_index zero j x = refl
  leaves_index (suc n) j x = rw (leaves_number j, leaves_index n (j + 1) x)

  leaves_sum : (n : ℕ) → string_sum keys_after n ≡ string_sum keys n
  unfolding string_sum
  leaves_sum n = sum_cong n (λ j. (key_at keys_after j).strings) (λ j. (key_at keys j).strings) (λ j h. leaves_strings j)

  leaves_new : (n : ℕ) → new_key keys_after n ≡ new_key keys n
  unfolding new_key
  leaves_new n = all_cong n _ _ (λ j h. rw (leaves_number j, leaves_number n))

  leaves_apart : (n : ℕ) → keys_apart keys_after n ≡ keys_apart keys n
  unfolding keys_apart
  leaves_apart n = all_cong n (new_key keys_after) (new_key keys) (λ j h. leaves_new j)

  leaves_unused : (n : ℕ) → k < n → keys_unused keys_after n ≡ keys_unused keys n
  unfolding keys_unused
  leaves_unused n h = all_cong (16 - n) _ _ (λ j l. ap is_no_key (get_or-set_other keys k (n + j) key_after past_key (λ e. omega arith)))

  -- past the list a key has no string, so that one in range is in the list
  in_list : (n : ℕ) → k < n → keys_in_range keys n ≡ true → k < length keys
  in_list n h r = ⊎_elim (λ q. q) (λ q. absurd (omega (arith, some_strings keys n r k h, past q))) (lt_or_ge k (length keys))
    where
      past : length keys ≤ k → (key_at keys k).strings ≡ 0
      past q = ap (λ (d : KeyDesign). d.strings) (get_or-eq_default keys past_key {n = k} q)

  -- a key that is in range but for its weight
  weight_decides : key_in_range (key_at keys k) ≡ true → key_in_range key_after ≡ weight_in_range w
  unfolding key_in_range key_weighted
  weight_decides h = one_decides _ h 2 (weight_in_range w) (omega arith)

  ranges_decide : (n : ℕ) → k < n → keys_in_range keys n ≡ true → keys_in_range keys_after n ≡ weight_in_range w
  unfolding keys_in_range
  ranges_decide n h r =
      below_decides (λ j. key_in_range (key_at keys_after j)) n k h
      (λ j l other. ap key_in_range (get_or-set_other keys k j key_after past_key other) ∙ key_in_range_lem keys n r j l)
      ∙ ap key_in_range (get_or-set_same keys k key_after past_key (in_list n h r))
      ∙ weight_decides (key_in_range_lem keys n r k h)

-- ---- a record with one weight set

module _ (i : Instrument) (k : ℕ) (w : Float) where
  index_left : (x : ℕ) → index_of (weighted_at i k w) x ≡ index_of i x
  unfolding weighted_at
  index_left x = leaves_index i.keys k w i.key_count 0 x

  there_left : (x : ℕ) → has_key (weighted_at i k w) x ≡ has_key i x
  unfolding has_key weighted_at
  there_left x = ap (λ (m : ℕ). leb i.key_count 16 && ltb m i.key_count) (index_left x)

  set_again : (v : Float) → weighted_at (weighted_at i k w) k v ≡ weighted_at i k v
  unfolding weighted_at key_weighted
  set_again v =
      let d = key_weighted (key_at i.keys k) w in
      rw (set-set i.keys k d (key_weighted (key_at (set i.keys k d) k) v), set_leaves (λ (x : KeyDesign). key_weighted x v) i.keys k d refl k)

  module _ (there : k < i.key_count) (h : valid i ≡ true) where
    keys_hold : keys_valid i ≡ true
    unfolding valid
    keys_hold = holds _ h 2

    keys_decide : keys_valid (weighted_at i k w) ≡ weight_in_range w
    unfolding keys_valid weighted_at
    keys_decide =
        let n = i.key_count in
        rw (leaves_apart i.keys k w n, leaves_unused i.keys k w n there, ranges_decide i.keys k w n there (keys_ranges i h))
        (one_decides _ keys_hold 0 (weight_in_range w) (omega arith))

    leaves_strings_valid : strings_valid (weighted_at i k w) ≡ strings_valid i
    unfolding strings_valid weighted_at
    leaves_strings_valid = rw (leaves_sum i.keys k w i.key_count)

    valid_at : valid (weighted_at i k w) ≡ weight_in_range w
    unfolding valid counted weighted_at
    valid_at = rw (keys_decide, leaves_strings_valid) (one_decides _ h 2 (weight_in_range w) (omega arith))

-- ---- the weight of the key of a number

module _ (i : Instrument) (key : ℕ) where
  pub weighted_there : has_key i key ≡ true → (w : Float) → weighted i key w ≡ weighted_at i (index_of i key) w
  unfolding weighted
  weighted_there e w = rw e

  pub weighted_none : has_key i key ≡ false → (w : Float) → weighted i key w ≡ i
  unfolding weighted
  weighted_none e w = rw e

  pub there_few : has_key i key ≡ true → i.key_count ≤ 16
  unfolding has_key
  there_few e = leb-true i.key_count 16 (and_left (leb i.key_count 16) (ltb (index_of i key) i.key_count) e)

  pub there_index : has_key i key ≡ true → index_of i key < i.key_count
  unfolding has_key
  there_index e = ltb-true (index_of i key) i.key_count (and_right (leb i.key_count 16) (ltb (index_of i key) i.key_count) e)

  -- no key comes or goes
  pub has_same : (w : Float) (x : ℕ) → has_key (weighted i key w) x ≡ has_key i x
  has_same w x = by_test (has_key i key) refl
    where
      by_test : (b : Bool) → has_key i key ≡ b → has_key (weighted i key w) x ≡ has_key i x
      by_test true e = ap (λ (r : Instrument). has_key r x) (weighted_there e w) ∙ there_left i (index_of i key) w x
      by_test false e = ap (λ (r : Instrument). has_key r x) (weighted_none e w)

  -- a record that an accepted file gives stays one exactly where the weight is 0 to 100, ends counted, and not NaN
  pub weighted_valid : valid i ≡ true → has_key i key ≡ true → (w : Float) → valid (weighted i key w) ≡ weight_in_range w
  weighted_valid h e w = ap valid (weighted_there e w) ∙ valid_at i (index_of i key) w (there_index e) h

-- of two weights for one key the later stands
pub later_stands : (i : Instrument) (key : ℕ) (w v : Float) → weighted (weighted i key w) key v ≡ weighted i key v
later_stands i key w v = by_test (has_key i key) refl
  where
    by_test : (b : Bool) → has_key i key ≡ b → weighted (weighted i key w) key v ≡ weighted i key v
    by_test true e =
        let k = index_of i key in
        ap (λ (r : Instrument). weighted r key v) (weighted_there i key e w)
        ∙ weighted_there (weighted_at i k w) key (there_left i k w key ∙ e) v
        ∙ ap (λ (m : ℕ). weighted_at (weighted_at i k w) m v) (index_left i k w key)
        ∙ set_again i k w v
        ∙ sym (weighted_there i key e v)
    by_test false e = ap (λ (r : Instrument). weighted r key v) (weighted_none i key e w)

-- weights in their range, for keys that are there, keep a record one that an accepted file gives
module _ (keys : List ℕ) (weights : List Float) where
  pub whole_valid : (i : Instrument) → valid i ≡ true → whole_pairs i keys weights ≡ true
      → all_below (length weights) (λ j. weight_in_range (get_or weights j nan)) ≡ true
      → valid (weighted_by i keys weights) ≡ true
  unfolding whole_pairs weighted_by
  whole_valid i v whole ranges =
      go keys weights i v
      (all_at (λ j. has_key i (get_or keys j 0)) (length keys) (and_right (eqb (length keys) (length weights)) _ whole))
      (all_at (λ j. weight_in_range (get_or weights j nan)) (length weights) ranges)
    where
      go : (ks : List ℕ) (ws : List Float) (i : Instrument) → valid i ≡ true → ((j : ℕ) → j < length ks → has_key i (get_or ks j 0) ≡ true)
          → ((j : ℕ) → j < length ws → weight_in_range (get_or ws j nan) ≡ true) → valid (weighted_by i ks ws) ≡ true
      go [] ws i v there range = v
      go (k ∷ ks) [] i v there range = v
      go (k ∷ ks) (w ∷ ws) i v there range =
          go ks ws (weighted i k w) (weighted_valid i k v (there 0 (omega arith)) w ∙ range 0 (omega arith))
          (λ j l. has_same i k w (get_or ks j 0) ∙ there (suc j) (omega arith))
          (λ j l. range (suc j) (omega arith))
