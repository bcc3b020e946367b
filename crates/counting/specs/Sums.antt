-- The first n numbers of a list, added up: what becomes of the sum where one of them goes up by one, and that places
-- past the list add nothing. Assumes nothing.
use Rattle.std.specs.Prelude.{◌≡◌, List, length, set, replicate}
use Rattle.std.proofs.Math.Path.{refl, ap}
use Rattle.std.proofs.Common.{sym, ◌∙◌, eq-or-lt_of_le, le_of_suc-le-suc, arith}
use Rattle.std.proofs.Math.Logic.{⊎_elim}
use Prim.Native.Nat.{ℕ, zero, suc, ◌+◌, ◌≤◌, ◌<◌}
use Rattle.std.proofs.Math.ListN.{get_or, get_or-eq_default}
use Rattle.std.proofs.Math.Seq.{get_or-set_same, get_or-set_other, set_out}
use Rattle.counting.specs.Below.{sum_below}
use Rattle.counting.specs.Laws.{lt_or_ge, sum_within, sum_same, sum_cong}

-- the sum of a list's first n numbers; a place past the list has 0
abbrev pub sum_of : ℕ → List ℕ → ℕ
sum_of n l = sum_below n (λ j. get_or l j 0)

-- one of its numbers goes up by one; none where there is no place k
abbrev pub raised : List ℕ → ℕ → List ℕ
raised l k = set l k (get_or l k 0 + 1)

module _ (l : List ℕ) (k : ℕ) where
  -- past the first n nothing changes
  sum_past : (n : ℕ) → n ≤ k → sum_of n (raised l k) ≡ sum_of n l
  unfolding sum_below
  sum_past zero h = refl
  sum_past (suc n) h =
      let e = get_or-set_other l k n (get_or l k 0 + 1) 0 (λ q. omega arith) in
      omega (arith, sum_past n (omega arith), e)

  -- among them, the sum goes up by one
  pub sum_raised : (n : ℕ) → k < n → k < length l → sum_of n (raised l k) ≡ sum_of n l + 1
  unfolding sum_below
  sum_raised zero h q = absurd (omega arith)
  sum_raised (suc n) h q =
      ⊎_elim
      (λ (e : k ≡ n).
      let same = get_or-set_same l k (get_or l k 0 + 1) 0 q in
      let here : get_or (raised l k) n 0 ≡ get_or l n 0 + 1 = ap (λ (j : ℕ). get_or (raised l k) j 0) (sym e) ∙ same ∙ ap (λ (j : ℕ). get_or l j 0 + 1) e in
      omega (arith, sum_past n (omega arith), here))
      (λ (g : k < n).
      let e = get_or-set_other l k n (get_or l k 0 + 1) 0 (λ q. omega arith) in
      omega (arith, sum_raised n g q, e))
      (eq-or-lt_of_le (le_of_suc-le-suc h))

  -- and wherever k lies, by one at most
  pub sum_raised_most : (n : ℕ) → sum_of n (raised l k) ≤ sum_of n l + 1
  sum_raised_most n =
      ⊎_elim
      (λ (h : k < n).
      ⊎_elim (λ (q : k < length l). omega (arith, sum_raised n h q)) (λ (q : length l ≤ k). rw (set_out l k (get_or l k 0 + 1) q) (omega arith)) (lt_or_ge k (length l)))
      (λ (h : n ≤ k). omega (arith, sum_past n h))
      (lt_or_ge k n)

-- each of the first n is within their sum
pub one_within : (l : List ℕ) (n k : ℕ) → k < n → get_or l k 0 ≤ sum_of n l
one_within l n k h = omega (arith, sum_within (λ j. get_or l j 0) n k h)

-- places past the list add nothing
pub sum_beyond : (l : List ℕ) (n m : ℕ) → length l ≤ n → n ≤ m → sum_of m l ≡ sum_of n l
unfolding sum_below
sum_beyond l n zero h q = let e : n ≡ 0 = omega arith in rw e
sum_beyond l n (suc m) h q =
    ⊎_elim
    (λ (e : n ≡ suc m). rw e refl)
    (λ (g : n < suc m). omega (arith, sum_beyond l n m h (le_of_suc-le-suc g), get_or-eq_default l 0 {n = m} (omega arith)))
    (eq-or-lt_of_le q)

zero_at : (m j : ℕ) → ◌≡◌ {A = ℕ} (get_or (replicate m 0) j 0) 0
zero_at zero j = refl
zero_at (suc m) zero = refl
zero_at (suc m) (suc j) = zero_at m j

pub sum_zeros : (n m : ℕ) → sum_of n (replicate m 0) ≡ 0
sum_zeros n m = sum_cong n (λ j. get_or (replicate m 0) j 0) (λ j. 0) (λ j h. zero_at m j) ∙ sum_same n 0 ∙ omega arith
