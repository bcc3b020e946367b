-- Items of equal width in a list of words, one after the other: written, read, and read back. Assumes nothing.
use Rattle.std.specs.Prelude.{◌≡◌, Bool, ◌&&◌, get_or, set}
use Rattle.std.proofs.Math.Path.{refl, sym, ap}
use Rattle.std.proofs.Common.{◌∙◌, take-suc-set, take_all, drop_at, drop-drop}
use Rattle.std.proofs.Math.Bool.{true}
use mathlib.Core.List.{List, [], ◌∷◌, ◌++◌, append_assoc, append-nil}
use Prim.Native.Nat.{ℕ, zero, suc, ◌+◌, ◌*◌, ◌≤◌, ◌<◌}
use Rattle.std.proofs.Math.Nat.{mul-suc}
use Rattle.std.proofs.Math.Numerals.{add-one}
use native.Mathlib.Omega.{arith}
use Rattle.std.proofs.Math.ListN.{length, take, drop, length-append}
use Rattle.std.proofs.Math.Seq.{sets, take-suc, length-take-le}
use Rattle.counting.specs.Every.{every, every_after, every_more}
use Rattle.little_endian.specs.Stores.{sets_next}

module _ {A : Type 0} where
  -- the words of each item, one item after the other
  unfoldable pub joined : (A → List ℕ) → List A → List ℕ
  joined f [] = []
  joined f (x ∷ xs) = f x ++ joined f xs

  -- n items, each read from its own words on
  unfoldable pub items_of : (List ℕ → A) → ℕ → ℕ → List ℕ → List A
  items_of g width zero w = []
  items_of g width (suc n) w = g w ∷ items_of g width n (drop width w)

  -- P holds of each item
  unfoldable pub AllOf : (A → Type 0) → List A → Type 0
  AllOf P [] = Unit {0}
  AllOf P (x ∷ xs) = P x × AllOf P xs

-- ---- their laws

module _ {A : Type 0} where
  pub items_length : (g : List ℕ → A) (width n : ℕ) (w : List ℕ) → length (items_of g width n w) ≡ n
  unfolding items_of
  items_length g width zero w = refl
  items_length g width (suc n) w = ap suc (items_length g width n (drop width w))

  -- what holds of whatever is read holds of each item
  pub all_items : (P : A → Type 0) (g : List ℕ → A) → ((w : List ℕ) → P (g w)) → (width n : ℕ) (w : List ℕ) → AllOf P (items_of g width n w)
  unfolding items_of AllOf
  all_items P g h width zero w = tt
  all_items P g h width (suc n) w = (h w, all_items P g h width n (drop width w))

  -- one item more
  pub items_more : (g : List ℕ → A) (width i : ℕ) (w : List ℕ) → items_of g width (i + 1) w ≡ items_of g width i w ++ (g (drop (width * i) w) ∷ [])
  unfolding items_of
  items_more g width i w = rw add-one (go i w)
    where
      go : (i : ℕ) (w : List ℕ) → items_of g width (suc i) w ≡ items_of g width i w ++ (g (drop (width * i) w) ∷ [])
      go zero w = let e : 0 ≡ width * 0 = omega arith in ap (λ (n : ℕ). g (drop n w) ∷ []) e
      go (suc i) w =
          let e : width + width * i ≡ width * suc i = omega (arith, mul-suc width i) in
          ap (λ (l : List A). g w ∷ l)
          (go i (drop width w)
          ∙ ap (λ (l : List ℕ). items_of g width i (drop width w) ++ (g l ∷ [])) (drop-drop (width * i) width w ∙ ap (λ (n : ℕ). drop n w) e))

  -- item i has been read into its place
  pub items_turn : (g : List ℕ → A) (width i : ℕ) (w : List ℕ) (out : List A) (x : A) → i < length out → take i out ≡ items_of g width i w
      → x ≡ g (drop (width * i) w) → take (i + 1) (set out i x) ≡ items_of g width (i + 1) w
  items_turn g width i w out x h inv e =
      ap (λ (n : ℕ). take n (set out i x)) (add-one i) ∙ take-suc-set out i x h
      ∙ ap (λ (l : List A). l ++ (x ∷ [])) inv ∙ ap (λ (y : A). items_of g width i w ++ (y ∷ [])) e ∙ sym (items_more g width i w)

  -- all have been read
  pub items_end : (g : List ℕ → A) (width i : ℕ) (w : List ℕ) (out : List A) → length out ≡ i → take i out ≡ items_of g width i w
      → out ≡ items_of g width i w
  items_end g width i w out e inv = sym (take_all i out (omega arith)) ∙ inv

  pub joined_append : (f : A → List ℕ) (xs ys : List A) → joined f (xs ++ ys) ≡ joined f xs ++ joined f ys
  unfolding joined
  joined_append f [] ys = refl
  joined_append f (x ∷ xs) ys = ap (λ (l : List ℕ). f x ++ l) (joined_append f xs ys) ∙ sym (append_assoc (f x) (joined f xs) (joined f ys))

  module _ (P : A → Type 0) (f : A → List ℕ) (width : ℕ) (size : (x : A) → P x → length (f x) ≡ width) where
    pub joined_length : (xs : List A) → AllOf P xs → length (joined f xs) ≡ width * length xs
    unfolding joined AllOf
    joined_length [] h = omega arith
    joined_length (x ∷ xs) h = length-append (f x) (joined f xs) ∙ omega (arith, size x h.0, joined_length xs h.1, mul-suc width (length xs))

    pub all_take : (i : ℕ) (xs : List A) → AllOf P xs → AllOf P (take i xs)
    unfolding AllOf
    all_take zero xs h = tt
    all_take (suc i) [] h = tt
    all_take (suc i) (x ∷ xs) h = (h.0, all_take i xs h.1)

    -- item i has been written behind those before it
    pub joined_turn : (i : ℕ) (xs : List A) (z : A) (l w : List ℕ) (a b : ℕ) → AllOf P xs → i < length xs → b ≡ a + width * i
        → w ≡ sets l a (joined f (take i xs)) → sets w b (f (get_or xs i z)) ≡ sets l a (joined f (take (i + 1) xs))
    unfolding joined
    joined_turn i xs z l w a b h k at inv =
        let n : length (take i xs) ≡ i = length-take-le i xs (omega arith) in
        let e = joined_length (take i xs) (all_take i xs h) in
        let there : b ≡ a + length (joined f (take i xs)) = at ∙ ap (λ (m : ℕ). a + width * m) (sym n) ∙ ap (λ (m : ℕ). a + m) (sym e) in
        ap (λ (v : List ℕ). sets v b (f (get_or xs i z))) inv
        ∙ sets_next l (joined f (take i xs)) (f (get_or xs i z)) a b there
        ∙ ap (λ (v : List ℕ). sets l a (joined f (take i xs) ++ v)) (sym (append-nil (f (get_or xs i z))))
        ∙ ap (sets l a) (sym (joined_append f (take i xs) (get_or xs i z ∷ [])))
        ∙ ap (λ (v : List A). sets l a (joined f v)) (sym (ap (λ (m : ℕ). take m xs) (add-one i) ∙ take-suc xs i z k))

    -- all have been written
    pub joined_end : (i : ℕ) (xs : List A) (l w : List ℕ) (a : ℕ) → length xs ≤ i → w ≡ sets l a (joined f (take i xs))
        → w ≡ sets l a (joined f xs)
    joined_end i xs l w a h inv = inv ∙ ap (λ (v : List A). sets l a (joined f v)) (take_all i xs h)

    -- what was written is read back
    pub items_back : (g : List ℕ → A) → ((x : A) → P x → (r : List ℕ) → g (f x ++ r) ≡ x) → (xs : List A) → AllOf P xs
        → (r : List ℕ) → items_of g width (length xs) (joined f xs ++ r) ≡ xs
    unfolding joined items_of AllOf
    items_back g back [] h r = refl
    items_back g back (x ∷ xs) h r =
        let e : (f x ++ joined f xs) ++ r ≡ f x ++ (joined f xs ++ r) = append_assoc (f x) (joined f xs) r in
        ap (λ (v : List ℕ). g v ∷ items_of g width (length xs) (drop width v)) e
        ∙ ap (λ (y : A). y ∷ items_of g width (length xs) (drop width (f x ++ (joined f xs ++ r)))) (back x h.0 (joined f xs ++ r))
        ∙ ap (λ (v : List ℕ). x ∷ items_of g width (length xs) v) (drop_at (f x) (joined f xs ++ r) width (size x h.0))
        ∙ ap (λ (v : List A). x ∷ v) (items_back g back xs h.1 r)

    -- where every item's words pass a test, so do the first n of those that were written
    pub items_pass : (test : List ℕ → Bool) → ((x : A) → P x → (r : List ℕ) → test (f x ++ r) ≡ true) → (n : ℕ) (xs : List A) → AllOf P xs
        → n ≤ length xs → (r : List ℕ) → every (items_of test width n (joined f xs ++ r)) ≡ true
    unfolding joined items_of AllOf every every_after
    items_pass test pass zero xs h k r = refl
    items_pass test pass (suc n) [] h k r = absurd (omega arith)
    items_pass test pass (suc n) (x ∷ xs) h k r =
        let e : (f x ++ joined f xs) ++ r ≡ f x ++ (joined f xs ++ r) = append_assoc (f x) (joined f xs) r in
        ap (λ (v : List ℕ). every_after (test v) (items_of test width n (drop width v))) e
        ∙ ap (λ (t : Bool). every_after t (items_of test width n (drop width (f x ++ (joined f xs ++ r))))) (pass x h.0 (joined f xs ++ r))
        ∙ ap (λ (v : List ℕ). every_after true (items_of test width n v)) (drop_at (f x) (joined f xs ++ r) width (size x h.0))
        ∙ items_pass test pass n xs h.1 (omega arith) r

-- one item more is tested
pub every_item : (test : List ℕ → Bool) (width i : ℕ) (w : List ℕ) (t u : Bool) → t ≡ every (items_of test width i w) → u ≡ test (drop (width * i) w)
    → (t && u) ≡ every (items_of test width (i + 1) w)
every_item test width i w t u e h = rw (e, h, items_more test width i w, every_more (items_of test width i w) (test (drop (width * i) w)))
