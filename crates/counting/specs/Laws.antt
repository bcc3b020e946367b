-- Laws of what holds of, adds up over, or is listed for each number below n. Assumes nothing.
use Rattle.std.specs.Prelude.{◌≡◌, Bool, true, ◌&&◌, replicate, set}
use Rattle.std.proofs.Math.Path.{refl, sym, ap}
use Rattle.std.proofs.Common.{◌∙◌, subst, le_refl, add-zero, eq-or-lt_of_le, le_of_suc-le-suc}
use mathlib.Core.List.{List, [], ◌∷◌, ◌++◌, append_assoc, append-nil}
use Rattle.std.proofs.Math.Logic.{⊎_elim}
pub use Rattle.std.proofs.lemmas.Bool.{cases_lt as lt_or_ge}
use Prim.Native.Nat.{ℕ, zero, suc, ◌+◌, ◌-◌, ◌*◌, ◌≤◌, ◌<◌}
use Rattle.std.proofs.Math.Nat.{mul-suc}
use Rattle.std.proofs.Math.Numerals.{add-one}
use native.Mathlib.Omega.{arith}
use Rattle.std.proofs.Math.ListN.{length, get_or, length-append, length-replicate, get_or-replicate, get_or-append}
use Rattle.std.proofs.lemmas.List.Edits.{sets}
use Rattle.std.proofs.Math.Seq.{set-append_seam, get_or-append-add}
use Rattle.counting.specs.Every.{and_left, and_right}
use Rattle.counting.specs.Below.{all_below, sum_below, gather, tabulate, pad}

-- ---- a number below suc n is n or below n

last_or_less : {C : Type 0} (n i : ℕ) → i < suc n → (i ≡ n → C) → (i < n → C) → C
last_or_less n i h at below = ⊎_elim at below (eq-or-lt_of_le (le_of_suc-le-suc h))

-- ---- all below

module _ (P : ℕ → Bool) where
  pub all_at : (n : ℕ) → all_below n P ≡ true → (i : ℕ) → i < n → P i ≡ true
  unfolding all_below
  all_at zero h i l = absurd (omega arith)
  all_at (suc n) h i l = last_or_less n i l (λ e. ap P e ∙ and_right (all_below n P) (P n) h) (λ k. all_at n (and_left (all_below n P) (P n) h) i k)

pub all_build : (n : ℕ) (P : ℕ → Bool) → ((i : ℕ) → i < n → P i ≡ true) → all_below n P ≡ true
unfolding all_below
all_build zero P h = refl
all_build (suc n) P h = ap (λ (t : Bool). t && P n) (all_build n P (λ i l. h i (omega arith))) ∙ h n (le_refl (suc n))

pub all_cong : (n : ℕ) (P Q : ℕ → Bool) → ((i : ℕ) → i < n → P i ≡ Q i) → all_below n P ≡ all_below n Q
unfolding all_below
all_cong zero P Q h = refl
all_cong (suc n) P Q h =
    ap (λ (t : Bool). t && P n) (all_cong n P Q (λ i l. h i (omega arith))) ∙ ap (λ (t : Bool). all_below n Q && t) (h n (le_refl (suc n)))

-- a loop over the numbers below n, at i: t says whether the tests below i hold
pub record Tested (n : ℕ) (P : ℕ → Bool) (t : Bool) (i : ℕ) : Type 0 where
  pub below : i ≤ n
  pub all : t ≡ all_below i P

module _ {n : ℕ} {P : ℕ → Bool} where
  pub tested_none : Tested n P true 0
  unfolding all_below
  tested_none = record { below = omega arith; all = refl }

  pub tested_next : {t u : Bool} {i : ℕ} → Tested n P t i → i < n → u ≡ P i → Tested n P (t && u) (i + 1)
  unfolding all_below
  tested_next s h e = record { below = omega arith; all = rw (add-one, s.all, e) }

  pub tested_all : {t : Bool} {i : ℕ} → Tested n P t i → n ≤ i → t ≡ all_below n P
  tested_all {i = i} s h = let b = s.below in let e : i ≡ n = omega arith in rw e at s.all

-- ---- sums

module _ (S : ℕ → ℕ) where
  pub sum_more : (i : ℕ) → sum_below (i + 1) S ≡ sum_below i S + S i
  unfolding sum_below
  sum_more i = rw add-one

  pub sum_grows : (n i : ℕ) → i ≤ n → sum_below i S ≤ sum_below n S
  unfolding sum_below
  sum_grows zero i h = let e : i ≡ 0 = omega arith in rw e (le_refl 0)
  sum_grows (suc n) i h =
      ⊎_elim (λ e. rw e (le_refl (sum_below (suc n) S))) (λ l. let r = sum_grows n i (le_of_suc-le-suc l) in omega arith) (eq-or-lt_of_le h)

  -- the sum up to i and S i within the whole
  pub sum_within : (n i : ℕ) → i < n → sum_below i S + S i ≤ sum_below n S
  sum_within n i h = let a = sum_grows n (i + 1) (omega arith) in let b = sum_more i in omega arith

  pub sum_bound : (n c : ℕ) → ((i : ℕ) → i < n → S i ≤ c) → sum_below n S ≤ c * n
  unfolding sum_below
  sum_bound zero c h = omega arith
  sum_bound (suc n) c h = let a = sum_bound n c (λ i l. h i (omega arith)) in let b = h n (le_refl (suc n)) in let e = mul-suc c n in omega arith

pub sum_cong : (n : ℕ) (S R : ℕ → ℕ) → ((i : ℕ) → i < n → S i ≡ R i) → sum_below n S ≡ sum_below n R
unfolding sum_below
sum_cong zero S R h = refl
sum_cong (suc n) S R h = let a = sum_cong n S R (λ i l. h i (omega arith)) in let b = h n (le_refl (suc n)) in omega arith

pub sum_same : (n c : ℕ) → sum_below n (λ k. c) ≡ c * n
unfolding sum_below
sum_same zero c = omega arith
sum_same (suc n) c = ap (λ (m : ℕ). m + c) (sum_same n c) ∙ sym (mul-suc c n)

module _ {A : Type 0} where
  -- ---- lists by their numbers

  pub length_tabulate : (n : ℕ) (g : ℕ → A) → length (tabulate n g) ≡ n
  unfolding tabulate
  length_tabulate zero g = refl
  length_tabulate (suc n) g = length-append (tabulate n g) (g n ∷ []) ∙ rw (length_tabulate n g) (add-one n)

  pub tabulate_more : (n : ℕ) (g : ℕ → A) → tabulate (n + 1) g ≡ tabulate n g ++ (g n ∷ [])
  unfolding tabulate
  tabulate_more n g = rw add-one

  pub get_d_tabulate : (n : ℕ) (g : ℕ → A) (i : ℕ) (z : A) → i < n → get_or (tabulate n g) i z ≡ g i
  unfolding tabulate
  get_d_tabulate zero g i z h = absurd (omega arith)
  get_d_tabulate (suc n) g i z h =
      let len = length_tabulate n g in
      last_or_less n i h
      (λ e. ap (λ (m : ℕ). get_or (tabulate n g ++ (g n ∷ [])) m z) (e ∙ sym len ∙ sym (add-zero (length (tabulate n g)))) ∙ get_or-append-add (tabulate n g) (g n ∷ []) 0 z ∙ ap g (sym e))
      (λ l. get_or-append (tabulate n g) (g n ∷ []) z i (subst (λ (m : ℕ). i < m) (sym len) l) ∙ get_d_tabulate n g i z l)

  pub tabulate_cong : (n : ℕ) (g h : ℕ → A) → ((i : ℕ) → i < n → g i ≡ h i) → tabulate n g ≡ tabulate n h
  unfolding tabulate
  tabulate_cong zero g h e = refl
  tabulate_cong (suc n) g h e =
      ap (λ (l : List A). l ++ (g n ∷ [])) (tabulate_cong n g h (λ i l. e i (omega arith))) ∙ ap (λ (x : A). tabulate n h ++ (x ∷ [])) (e n (le_refl (suc n)))

  pub tabulate_add : (a b : ℕ) (g : ℕ → A) → tabulate a g ++ tabulate b (λ j. g (a + j)) ≡ tabulate (a + b) g
  unfolding tabulate
  tabulate_add a zero g = append-nil (tabulate a g) ∙ ap (λ (m : ℕ). tabulate m g) (sym (add-zero a))
  tabulate_add a (suc b) g =
      let e : suc (a + b) ≡ a + suc b = omega arith in
      sym (append_assoc (tabulate a g) (tabulate b (λ j. g (a + j))) (g (a + b) ∷ []))
      ∙ ap (λ (l : List A). l ++ (g (a + b) ∷ [])) (tabulate_add a b g)
      ∙ ap (λ (m : ℕ). tabulate m g) e

  -- ---- lists of lists

  pub gather_more : (n : ℕ) (G : ℕ → List A) → gather (n + 1) G ≡ gather n G ++ G n
  unfolding gather
  gather_more n G = rw add-one

  -- the first list, and the others
  pub gather_first : (n : ℕ) (G : ℕ → List A) → G 0 ++ gather n (λ k. G (suc k)) ≡ gather (suc n) G
  unfolding gather
  gather_first zero G = append-nil (G 0)
  gather_first (suc n) G = sym (append_assoc (G 0) (gather n (λ k. G (suc k))) (G (suc n))) ∙ ap (λ (l : List A). l ++ G (suc n)) (gather_first n G)

  pub gather_cong : (n : ℕ) (G H : ℕ → List A) → ((i : ℕ) → i < n → G i ≡ H i) → gather n G ≡ gather n H
  unfolding gather
  gather_cong zero G H h = refl
  gather_cong (suc n) G H h = ap (λ (l : List A). l ++ G n) (gather_cong n G H (λ i l. h i (omega arith)))
      ∙ ap (λ (l : List A). gather n H ++ l) (h n (le_refl (suc n)))

  -- runs of a numbered list, one after the other, are the list
  pub gather_runs : (n : ℕ) (S : ℕ → ℕ) (g : ℕ → A) → gather n (λ k. tabulate (S k) (λ j. g (sum_below k S + j))) ≡ tabulate (sum_below n S) g
  unfolding gather sum_below tabulate
  gather_runs zero S g = refl
  gather_runs (suc n) S g = ap (λ (l : List A). l ++ tabulate (S n) (λ j. g (sum_below n S + j))) (gather_runs n S g) ∙ tabulate_add (sum_below n S) (S n) g

  module _ (G : ℕ → List A) (S : ℕ → ℕ) (sizes : (i : ℕ) → length (G i) ≡ S i) where
    pub length_gather : (n : ℕ) → length (gather n G) ≡ sum_below n S
    unfolding gather sum_below
    length_gather zero = refl
    length_gather (suc n) = length-append (gather n G) (G n) ∙ rw (length_gather n, sizes n)

    -- element j of list i
    pub get_d_gather : (n i j : ℕ) (z : A) → i < n → j < S i → get_or (gather n G) (sum_below i S + j) z ≡ get_or (G i) j z
    unfolding gather
    get_d_gather zero i j z l k = absurd (omega arith)
    get_d_gather (suc n) i j z l k =
        let len = length_gather n in
        last_or_less n i l
        (λ e. ap (λ (m : ℕ). get_or (gather n G ++ G n) (m + j) z) (ap (λ (m : ℕ). sum_below m S) e ∙ sym len)
        ∙ get_or-append-add (gather n G) (G n) j z
        ∙ ap (λ (m : ℕ). get_or (G m) j z) (sym e))
        (λ q. let w = sum_within S n i q in
        get_or-append (gather n G) (G n) z (sum_below i S + j) (subst (λ (m : ℕ). sum_below i S + j < m) (sym len) (omega arith)) ∙ get_d_gather n i j z q k)

    -- what holds of every element of every list holds of every element of all
    pub all_gather : (n : ℕ) (Q : A → Bool) (z : A) → ((i j : ℕ) → i < n → j < S i → Q (get_or (G i) j z) ≡ true)
        → (j : ℕ) → j < sum_below n S → Q (get_or (gather n G) j z) ≡ true
    unfolding gather sum_below
    all_gather zero Q z h j k = absurd (omega arith)
    all_gather (suc n) Q z h j k =
        let e = length_gather n in
        ⊎_elim
        (λ q. ap Q (get_or-append (gather n G) (G n) z j (subst (λ (m : ℕ). j < m) (sym e) q)) ∙ all_gather n Q z (λ i j p r. h i j (omega arith) r) j q)
        (λ q. let d = j - sum_below n S in
        let w : j ≡ length (gather n G) + d = omega arith in
        ap (λ (m : ℕ). Q (get_or (gather n G ++ G n) m z)) w ∙ ap Q (get_or-append-add (gather n G) (G n) d z) ∙ h n d (le_refl (suc n)) (omega arith))
        (lt_or_ge j (sum_below n S))

  -- ---- a list filled up

  module _ (N : ℕ) (z : A) where
    pub pad_length : (xs : List A) → length xs ≤ N → length (pad N z xs) ≡ N
    unfolding pad
    pad_length xs h = length-append xs (replicate (N - length xs) z) ∙ rw length-replicate (omega arith)

    pub pad_first : (w : A) (xs : List A) (k : ℕ) → k < length xs → get_or (pad N z xs) k w ≡ get_or xs k w
    unfolding pad
    pad_first w xs k h = get_or-append xs (replicate (N - length xs) z) w k h

    pub pad_past : (w : A) (xs : List A) (k : ℕ) → k < N - length xs → get_or (pad N z xs) (length xs + k) w ≡ z
    unfolding pad
    pad_past w xs k h = get_or-append-add xs (replicate (N - length xs) z) k w ∙ get_or-replicate (N - length xs) k z w h

    pub pad_set : (xs : List A) (x : A) → length xs < N → set (pad N z xs) (length xs) x ≡ pad N z (xs ++ (x ∷ []))
    unfolding pad
    pad_set xs x h =
        let k = N - (length xs + 1) in
        let e : N - length xs ≡ suc k = omega arith in
        let l : N - length (xs ++ (x ∷ [])) ≡ k = ap (λ (m : ℕ). N - m) (length-append xs (x ∷ [])) in
        rw (e, l) (set-append_seam xs z (replicate k z) x ∙ sym (append_assoc xs (x ∷ []) (replicate k z)))

    pub pad_sets : (xs vs : List A) → length xs + length vs ≤ N → sets (pad N z xs) (length xs) vs ≡ pad N z (xs ++ vs)
    pad_sets xs [] h = ap (pad N z) (sym (append-nil xs))
    pad_sets xs (v ∷ vs) h =
        ap (λ (l : List A). sets l (suc (length xs)) vs) (pad_set xs v (omega arith))
        ∙ ap (λ (n : ℕ). sets (pad N z (xs ++ (v ∷ []))) n vs) (sym (length-append xs (v ∷ []) ∙ add-one (length xs)))
        ∙ pad_sets (xs ++ (v ∷ [])) vs (rw (length-append xs (v ∷ [])) (omega arith))
        ∙ ap (pad N z) (append_assoc xs (v ∷ []) vs)

  -- one store more
  pub sets_more : (l vs : List A) (i : ℕ) (v : A) → sets l i (vs ++ (v ∷ [])) ≡ set (sets l i vs) (i + length vs) v
  sets_more l [] i v = rw add-zero
  sets_more l (w ∷ vs) i v = sets_more (set l i w) vs (suc i) v ∙ ap (λ (n : ℕ). set (sets (set l i w) (suc i) vs) n v) (omega arith)
