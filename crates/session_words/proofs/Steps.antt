-- Items one after the other: one more is written, all are read, all are tested, over plain words. Assumes nothing.
use Rattle.std.proofs.Common.{◌≡◌, refl, sym, ap, subst, true≢false, ◌∙◌, Bool, true, false, ◌&&◌, ℕ, zero, suc, ◌+◌, ◌*◌, ◌≤◌, ◌<◌, List, [], ◌∷◌, ◌++◌, length, get_or, take, drop, drop-drop, arith, append-nil, length-append, add-one, take-suc}
use Rattle.std.proofs.Math.Nat.{mul-suc}
use Rattle.std.proofs.lemmas.List.{ext_get_or}
use Rattle.std.proofs.lemmas.List.Edits.{sets}
use Rattle.std.proofs.lemmas.List.FromFn.{get_or-range_with_len, length-range_with_len}
use Rattle.std.specs.Array.{IsFromFnResult, IsFromFnResultFrom}
use Rattle.std.specs.Bool.{MatchBool}
use Rattle.std.specs.Fn.{Called}
use Rattle.std.specs.List.{range_with_len, AllWithin, HoldsAt}
use denote.Param.Members.{Mut}
use Rattle.counting.specs.Every.{every, every_after, holds}
use Rattle.little_endian.specs.Stores.{sets_next}
use Rattle.session_words.specs.Items.{joined, joined_append, items_of, items_length, every_item}

-- ---- written

module _ {A : Type 0} (f : A → List ℕ) (width i : ℕ) (xs : List A) (x : A) (h : i < length xs) (e : x ≡ get_or xs i x) where
  joined_more : joined f (take (i + 1) xs) ≡ joined f (take i xs) ++ f x
  unfolding joined
  joined_more =
      let one : take (i + 1) xs ≡ take i xs ++ (x ∷ []) = rw (add-one, take-suc xs i x h, ← e) in
      ap (joined f) one ∙ joined_append f (take i xs) (x ∷ []) ∙ ap (λ (v : List ℕ). joined f (take i xs) ++ v) (append-nil (f x))

  -- item i has been written behind those before it
  module _ (before : length (joined f (take i xs)) ≡ width * i) where
    pub size_more : length (f x) ≡ width → length (joined f (take (i + 1) xs)) ≡ width * (i + 1)
    size_more size =
        ap length joined_more ∙ length-append (joined f (take i xs)) (f x) ∙ omega (arith, before, size, mul-suc width i)

    pub stored_more : (l w w' : List ℕ) (at : ℕ) → w ≡ sets l at (joined f (take i xs)) → w' ≡ sets w (at + width * i) (f x)
        → w' ≡ sets l at (joined f (take (i + 1) xs))
    stored_more l w w' at ew ew' =
        ew' ∙ ap (λ (v : List ℕ). sets v (at + width * i) (f x)) ew
        ∙ sets_next l (joined f (take i xs)) (f x) at (at + width * i) (ap (λ (m : ℕ). at + m) (sym before))
        ∙ ap (sets l at) (sym joined_more)

-- ---- read

module _ {A : Type 0} (g : List ℕ → A) (width : ℕ) where
  -- item k of n
  item_of : (n k : ℕ) (w : List ℕ) (d : A) → k < n → get_or (items_of g width n w) k d ≡ g (drop (width * k) w)
  unfolding items_of
  item_of zero k w d h = absurd (omega arith)
  item_of (suc n) zero w d h = let none : 0 ≡ width * 0 = omega arith in ap (λ (m : ℕ). g (drop m w)) none
  item_of (suc n) (suc k) w d h =
      let next : width + width * k ≡ width * suc k = omega (arith, mul-suc width k) in
      item_of n k (drop width w) d (omega arith) ∙ ap g (drop-drop (width * k) width w ∙ ap (λ (m : ℕ). drop m w) next)

  items_by_each : (n at : ℕ) (w : List ℕ) (xs : List A) → length xs ≡ n → ((k : ℕ) (d : A) → k < n → get_or xs k d ≡ g (drop (at + width * k) w))
      → xs ≡ items_of g width n (drop at w)
  items_by_each n at w xs long each =
      let l : List ℕ = drop at w in
      ext_get_or (g l) xs (items_of g width n l) (long ∙ sym (items_length g width n l))
      (λ k h. let below : k < n = omega (arith, long) in
      each k (g l) below ∙ ap g (sym (drop-drop (width * k) at w)) ∙ sym (item_of n k l (g l) below))

  -- what `array::from_fn` gives, where each call leaves the closure as it was
  module _ {F : Type 0} (c : Mut F (ℕ × Unit {0}) A) (f : F) (at : ℕ) (w : List ℕ)
      (acts : (i : ℕ) (y : A) (q : F) → Called c f (i, tt) y q → (q ≡ f) × (y ≡ g (drop (at + width * i) w))) where
    each_made : (ys : List A) (n i j : ℕ) (p : F) → p ≡ f → IsFromFnResultFrom c p ys i n → j < n → (k : ℕ) (d : A) → k ≡ i + j
        → get_or ys k d ≡ g (drop (at + width * k) w)
    each_made ys zero i j p e r h k d at_k = absurd (omega arith)
    each_made ys (suc n) i zero p e (q, y, here, called, rest) h k d at_k =
        let same : k ≡ i = omega arith in
        rw same (here.1 d ∙ (acts i y q (subst (λ (x : F). Called c x (i, tt) y q) e called)).1)
    each_made ys (suc n) i (suc j) p e (q, y, here, called, rest) h k d at_k =
        each_made ys n (i + 1) j q (acts i y q (subst (λ (x : F). Called c x (i, tt) y q) e called)).0 rest (omega arith) k d (omega arith)

    pub items_made : (ys : List A) (n : ℕ) → IsFromFnResult c f ys n → ys ≡ items_of g width n (drop at w)
    items_made ys n r = items_by_each n at w ys r.long (λ k d h. each_made ys n 0 k f refl r.each h k d (omega arith))

-- ---- tested

module _ (test : List ℕ → Bool) (width : ℕ) where
  all_pass : (n : ℕ) (w : List ℕ) → ((k : ℕ) → k < n → test (drop (width * k) w) ≡ true) → true ≡ every (items_of test width n w)
  unfolding items_of every every_after
  all_pass zero w h = refl
  all_pass (suc n) w h =
      every_item test width n w true true (all_pass n w (λ k below. h k (omega arith))) (sym (h n (omega arith)))
      ∙ ap (λ (m : ℕ). every (items_of test width m w)) (add-one n)

  one_fails : (n k : ℕ) (w : List ℕ) → k < n → test (drop (width * k) w) ≡ false → (r : Bool) → r ≡ every (items_of test width n w) → false ≡ r
  one_fails n k w h fails false e = refl
  one_fails n k w h fails true e =
      absurd (true≢false (sym (holds (items_of test width n w) (sym e) k) ∙ item_of test width n k w true h ∙ fails))

  pub every_told : (r : Bool) (n at : ℕ) (w : List ℕ)
      → MatchBool r (AllWithin (λ k. test (drop (at + width * k) w) ≡ true) (range_with_len 0 n) 0 (length (range_with_len 0 n)))
      ((k : ℕ) × (k < length (range_with_len 0 n)) × HoldsAt (λ k. test (drop (at + width * k) w) ≡ false) (range_with_len 0 n) k)
      → r ≡ every (items_of test width n (drop at w))
  every_told true n at w told = all_pass n (drop at w) (λ k h.
      ap test (drop-drop (width * k) at w) ∙ subst (λ (m : ℕ). test (drop (at + width * m) w) ≡ true) (get_or-range_with_len 0 n k 0 h ∙ omega arith)
      (told k 0 (omega arith) (omega (arith, length-range_with_len 0 n))))
  every_told false n at w (k, h, told) =
      let below : k < n = omega (arith, length-range_with_len 0 n) in
      one_fails n k (drop at w) below
      (ap test (drop-drop (width * k) at w)
      ∙ subst (λ (m : ℕ). test (drop (at + width * m) w) ≡ false) (get_or-range_with_len 0 n k 0 below ∙ omega arith) (told 0)) _ refl
