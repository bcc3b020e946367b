-- Parts of a list, one after the other, are the list; a list filled up is known by its elements. Assumes nothing.
use Rattle.std.specs.Prelude.{◌≡◌, Bool, true, length, get_or, drop}
use Rattle.std.proofs.Math.Path.{refl, ap}
use Rattle.std.proofs.Common.{sym, ◌∙◌, ⊎_elim, arith, ext_get_or}
use mathlib.Core.List.{List, ◌++◌}
use Prim.Native.Nat.{ℕ, zero, suc, ◌+◌, ◌-◌, ◌*◌, ◌≤◌, ◌<◌}
use Rattle.std.proofs.Math.ListN.{take}
use Rattle.little_endian.specs.Bytes.{join}
use Rattle.counting.specs.Below.{all_below, sum_below, gather, pad}
use Rattle.counting.specs.Laws.{lt_or_ge, all_at, all_build, sum_same, gather_cong, pad_length, pad_first, pad_past}

module _ {A : Type 0} (f : List A) (a : ℕ) where
  -- parts of L 0, L 1, .. elements from a on
  pub pieces : (L : ℕ → ℕ) (n : ℕ) → gather n (λ i. take (L i) (drop (a + sum_below i L) f)) ≡ take (sum_below n L) (drop a f)
  unfolding gather sum_below
  pieces L zero = refl
  pieces L (suc n) = ap (λ (l : List A). l ++ take (L n) (drop (a + sum_below n L) f)) (pieces L n) ∙ join f a (sum_below n L) (L n)

  -- parts of c elements
  pub even_pieces : (c n : ℕ) → gather n (λ i. take c (drop (a + c * i) f)) ≡ take (c * n) (drop a f)
  even_pieces c n =
      gather_cong n (λ i. take c (drop (a + c * i) f)) (λ i. take c (drop (a + sum_below i (λ k. c)) f)) (λ i l. ap (λ (m : ℕ). take c (drop (a + m) f)) (sym (sum_same i c)))
      ∙ pieces (λ k. c) n
      ∙ ap (λ (m : ℕ). take m (drop a f)) (sum_same n c)

-- what holds of the places n, n + 1, .. below N
pub all_from : (P : ℕ → Bool) (N n : ℕ) → all_below (N - n) (λ k. P (n + k)) ≡ true → (k : ℕ) → n ≤ k → k < N → P k ≡ true
all_from P N n h k low high =
    let e : n + (k - n) ≡ k = omega arith in
    ap P (sym e) ∙ all_at (λ j. P (n + j)) (N - n) h (k - n) (omega arith)

module _ {A : Type 0} (N : ℕ) (z w : A) (xs : List A) where
  -- a list of N elements that starts as xs and holds z after them is xs filled up with z
  pub pad_is : (ys : List A) → length xs ≤ N → length ys ≡ N → ((k : ℕ) → k < length xs → get_or xs k w ≡ get_or ys k w)
      → ((k : ℕ) → length xs ≤ k → k < N → get_or ys k w ≡ z) → pad N z xs ≡ ys
  pad_is ys few long first rest =
      let p = pad_length N z xs few in
      ext_get_or w (pad N z xs) ys (p ∙ sym long)
      (λ k h. ⊎_elim
      (λ q. pad_first N z w xs k q ∙ first k q)
      (λ g. let e : length xs + (k - length xs) ≡ k = omega arith in
      ap (λ (j : ℕ). get_or (pad N z xs) j w) (sym e) ∙ pad_past N z w xs (k - length xs) (omega arith) ∙ sym (rest k g (omega arith)))
      (lt_or_ge k (length xs)))

  -- the places after xs pass a test that z passes
  pub pad_rest : (P : A → Bool) (n : ℕ) → length xs ≡ n → P z ≡ true → all_below (N - n) (λ k. P (get_or (pad N z xs) (n + k) w)) ≡ true
  pad_rest P n e h =
      all_build (N - n) (λ k. P (get_or (pad N z xs) (n + k) w))
      (λ k l. ap (λ (m : ℕ). P (get_or (pad N z xs) (m + k) w)) (sym e) ∙ ap P (pad_past N z w xs k (omega arith)) ∙ h)
