-- The root of a number n * p * p, with p = 2 ^ k and n of 105 or 106 digits, by the root of n. Assumes nothing.
use Rattle.std.proofs.Common.{◌≡◌, ℕ, zero, suc, ◌+◌, ◌-◌, ◌*◌, ◌/◌, ◌^◌, ◌<◌, ◌≤◌, Bool, true, false, cond, not, T, ltb, ◌⊎◌, sym, refl}
use Rattle.std.proofs.Common.{ap, ◌∙◌, subst, inl, inr, true≢false, le_trans, le_of_eq, lt_of_lt_of_le, lt_of_le_of_lt, le_of_lt, lt_irrefl}
use Rattle.std.proofs.Common.{mul-le-mul_right, mul_assoc, add-mul, mul-le-mul, eq-or-lt_of_le, mul-lt-mul_of_pos_right, mul-pos, one-mul}
use Rattle.std.proofs.Common.{lt_of_not-le, zero-add, zero-mul, not-le_of_lt, mul-div_cancel, arith, lit<, lit≤, lt→ltb, pow_pos, pow_mono}
use Rattle.std.proofs.Common.{pow-add, shl_lt}
use Prim.Native.Nat.{compare, Ordering}
use native.Mathlib.Nat.{mul-mul-mul_comm}
use lib.Arith.{digits_div}
use lib.Ieee.{Float, nan, inf, fin, binary64, up, down, size, nearest, odd, units, fits, is_nan, nan_bits, of_bits, to_bits}
use lib.Ieee.Digits.{size-lt, size-le}
use lib.Ieee.Fits.{odd-fits, down_pos}
use lib.Ieee.Exact.{HasValue, units_val}
use lib.Ieee.Bits.{of_bits-to_bits, nan_bits_is}
use Rattle.root.specs.Root.{whole_root, root_units, root_of}
use Rattle.root.specs.Steps.{nearest_root}
use Rattle.root.proofs.Squares.{Root, sq_odd, is_root, root_le, compare_lt, compare_gt, round_down, round_up, lt_or_ge}

-- a number of p + k digits, p of them kept
size_at_lem : (w p k : ℕ) → 2 ^ (p + k) ≤ w → w < 2 ^ (suc p + k) → size w - suc p ≡ k
size_at_lem w p k h l = exact (size w) p k (size-le w (suc p + k) l) (lt_of_not-le (λ (g : size w ≤ p + k). not-le_of_lt (lt_of_lt_of_le (size-lt w) (pow_mono g)) h))
  where
    exact : (z p k : ℕ) → z ≤ suc p + k → p + k < z → z - suc p ≡ k
    exact z p k a b = omega arith

cut : (w q p : ℕ) → q * p ≤ w → w < (q + 1) * p → w / p ≡ q
cut w q p h l =
    let e = add-mul q 1 p in
    let o = one-mul p in
    let r : w - q * p < p = omega arith in
    ap (λ (x : ℕ). x / p) (whole w (q * p) h) ∙ digits_div q r
  where
    whole : (w a : ℕ) → a ≤ w → w ≡ a + (w - a)
    whole w a h = omega arith

-- the whole root of n * (p * p) lies from q * p to (q + 1) * p
scaled_lo : (n q p : ℕ) → Root n q → q * p ≤ whole_root (n * (p * p))
scaled_lo n q p h =
    root_le (n * (p * p)) (q * p) (whole_root (n * (p * p)))
    (le_trans (le_of_eq (mul-mul-mul_comm q p q p)) (mul-le-mul_right (p * p) h.0))
    (is_root (n * (p * p))).1

scaled_hi : (n q p : ℕ) → 0 < p → Root n q → whole_root (n * (p * p)) < (q + 1) * p
scaled_hi n q p P h = lt_of_not-le (λ (g : (q + 1) * p ≤ whole_root (n * (p * p))).
    let m = n * (p * p) in
    let a : (q + 1) * p * ((q + 1) * p) ≤ m = le_trans (mul-le-mul g g) (is_root m).0 in
    let b : m < (q + 1) * (q + 1) * (p * p) = mul-lt-mul_of_pos_right h.1 (mul-pos P P) in
    lt_irrefl m (lt_of_lt_of_le b (le_trans (le_of_eq (sym (mul-mul-mul_comm (q + 1) p (q + 1) p))) a)))

-- the middle between q * p and (q + 1) * p is on the same side of both roots
same_side : (n q p : ℕ) → 0 < p → Root n q → nearest q (compare (4 * (n * (p * p))) ((2 * q + 1) * p * ((2 * q + 1) * p))) ≡ nearest_root n
same_side n q p P h = go (lt_or_ge (q * q + q) n)
  where
    o : (2 * q + 1) * (2 * q + 1) ≡ 4 * (q * q) + 4 * q + 1
    o = sq_odd q

    l : 4 * (n * (p * p)) ≡ 4 * n * (p * p)
    l = sym (mul_assoc 4 n (p * p))

    r : (2 * q + 1) * p * ((2 * q + 1) * p) ≡ (2 * q + 1) * (2 * q + 1) * (p * p)
    r = mul-mul-mul_comm (2 * q + 1) p (2 * q + 1) p

    go : (q * q + q < n) ⊎ (n ≤ q * q + q) → nearest q (compare (4 * (n * (p * p))) ((2 * q + 1) * p * ((2 * q + 1) * p))) ≡ nearest_root n
    go (inl g) =
        let t : (2 * q + 1) * (2 * q + 1) < 4 * n = omega (arith, o) in
        let u : (2 * q + 1) * (2 * q + 1) * (p * p) < 4 * n * (p * p) = mul-lt-mul_of_pos_right t (mul-pos P P) in
        ap (λ (x : Ordering). nearest q x) (compare_gt (4 * (n * (p * p))) ((2 * q + 1) * p * ((2 * q + 1) * p)) (rw (l, r) u)) ∙ up_one q ∙ round_up n q h g
      where
        up_one : (q : ℕ) → suc q ≡ q + 1
        up_one q = omega arith
    go (inr g) =
        let t : 4 * n < (2 * q + 1) * (2 * q + 1) = omega (arith, o) in
        let u : 4 * n * (p * p) < (2 * q + 1) * (2 * q + 1) * (p * p) = mul-lt-mul_of_pos_right t (mul-pos P P) in
        ap (λ (x : Ordering). nearest q x) (compare_lt (4 * (n * (p * p))) ((2 * q + 1) * p * ((2 * q + 1) * p)) (rw (l, r) u)) ∙ round_down n q h g

-- ---- the root of a number of 105 or 106 digits, and where it is rounded to
abbrev pub Range : ℕ → Type 0
Range n = (2 ^ 52 * 2 ^ 52 ≤ n) × (n ≤ (2 ^ 53 - 1) * 2 ^ 53)

pub root_range : (n q : ℕ) → Range n → Root n q → (2 ^ 52 ≤ q) × (q < 2 ^ 53)
root_range n q v h = (root_le n (2 ^ 52) q v.0 h.1, low_le n q (root_le n q (2 ^ 53 - 1) h.0 (lt_of_le_of_lt v.1 (lit< tt))))
  where
    low_le : (n q : ℕ) → q ≤ 2 ^ 53 - 1 → q < 2 ^ 53
    low_le n q h = omega arith

pub nearest_range : (n : ℕ) → Range n → (2 ^ 52 ≤ nearest_root n) × (nearest_root n < 2 ^ 53)
nearest_range n v = go (lt_or_ge (q * q + q) n)
  where
    q : ℕ
    q = whole_root n

    k : (2 ^ 52 ≤ q) × (q < 2 ^ 53)
    k = root_range n q v (is_root n)

    last : (q : ℕ) → q * q + q < n → q < 2 ^ 53 → q + 1 < 2 ^ 53
    last q g h = elim (eq-or-lt_of_le h) [
      | inl e ↦
          let z : q ≡ 2 ^ 53 - 1 = omega arith in
          absurd (not-le_of_lt (subst (λ (x : ℕ). x * x + x < n) z g) v.1)
      | inr l ↦ omega arith
    ]

    go : (q * q + q < n) ⊎ (n ≤ q * q + q) → (2 ^ 52 ≤ nearest_root n) × (nearest_root n < 2 ^ 53)
    go (inl g) = subst (λ (r : ℕ). (2 ^ 52 ≤ r) × (r < 2 ^ 53)) (round_up n q (is_root n) g) (more q k.0, last q g k.1)
      where
        more : (q : ℕ) → 2 ^ 52 ≤ q → 2 ^ 52 ≤ q + 1
        more q h = omega arith
    go (inr g) = subst (λ (r : ℕ). (2 ^ 52 ≤ r) × (r < 2 ^ 53)) (round_down n q (is_root n) g) k

-- q * 2 ^ k has 53 + k digits
grown : (q k : ℕ) → 2 ^ 52 ≤ q → 2 ^ (52 + k) ≤ q * 2 ^ k
grown q k h = le_trans (le_of_eq (pow-add 2 52 k)) (mul-le-mul_right (2 ^ k) h)

-- ---- `root_units`
pub root_at : (n k a : ℕ) → Range n → a * 2 ^ 1074 ≡ n * (2 ^ k * 2 ^ k) → root_units binary64 a ≡ units binary64 false (nearest_root n) k
unfolding root_units
root_at n k a v e =
    let p = 2 ^ k in
    let P : 0 < p = pow_pos k in
    let q = whole_root n in
    let h : Root n q = is_root n in
    let r = root_range n q v h in
    let m = n * (p * p) in
    let w = whole_root m in
    let lo : q * p ≤ w = scaled_lo n q p h in
    let hi : w < (q + 1) * p = scaled_hi n q p P h in
    let z : size w - 53 ≡ k = size_at_lem w 52 k (le_trans (grown q k r.0) lo) (lt_of_lt_of_le hi (le_trans (mul-le-mul_right p (next q r.1)) (le_of_eq (sym (pow-add 2 53 k))))) in
    let d : w / p ≡ q = cut w q p lo hi in
    ap (λ (m : ℕ). at m (whole_root m) (size (whole_root m) - 53)) e
    ∙ ap (λ (k : ℕ). at m w k) z
    ∙ ap (λ (q : ℕ). units binary64 false (nearest q (compare (4 * m) ((2 * q + 1) * p * ((2 * q + 1) * p)))) k) d
    ∙ ap (λ (x : ℕ). units binary64 false x k) (same_side n q p P h)
  where
    at : ℕ → ℕ → ℕ → Float
    at m w k = units binary64 false (nearest (w / 2 ^ k) (compare (4 * m) ((2 * (w / 2 ^ k) + 1) * 2 ^ k * ((2 * (w / 2 ^ k) + 1) * 2 ^ k)))) k

    next : (q : ℕ) → q < 2 ^ 53 → q + 1 ≤ 2 ^ 53
    next q h = omega arith

-- ---- q * 2 ^ k units as a bit pattern, for a q of 53 digits: k * 2 ^ 52 + q
pub value_bits : (x : Float) (a : ℕ) → HasValue x false a (2 ^ 1074) → to_bits binary64 x ≡ (size a - 53) * 2 ^ 52 + a / 2 ^ (size a - 53)
unfolding to_bits
value_bits nan a h = absurd h
value_bits (inf s) a h = absurd h
value_bits (fin true m e) a h = absurd (true≢false h.0)
value_bits (fin false m e) a h = go (m * up e * 2 ^ 1074 / down e) (ap (λ (x : ℕ). x / down e) h.1 ∙ mul-div_cancel a (down_pos e))
  where
    go : (n : ℕ) → n ≡ a → 0 + (size n - 53) * 2 ^ 52 + n / 2 ^ (size n - 53) ≡ (size a - 53) * 2 ^ 52 + a / 2 ^ (size a - 53)
    go n e = ap (λ (x : ℕ). 0 + (size x - 53) * 2 ^ 52 + x / 2 ^ (size x - 53)) e
        ∙ ap (λ (x : ℕ). x + a / 2 ^ (size a - 53)) (zero-add ((size a - 53) * 2 ^ 52))

not_nan : (x : Float) (a : ℕ) → HasValue x false a (2 ^ 1074) → is_nan x ≡ false
unfolding is_nan
not_nan nan a h = absurd h
not_nan (inf s) a h = absurd h
not_nan (fin s m e) a h = refl

module _ (q k : ℕ) (lo : 2 ^ 52 ≤ q) (hi : q < 2 ^ 53) (small : k ≤ 2000) where
  under_top : q * 2 ^ k < 2 ^ 2098
  under_top = lt_of_lt_of_le (shl_lt 53 k hi) (pow_mono (le_2098 k small))
    where
      le_2098 : (k : ℕ) → k ≤ 2000 → 53 + k ≤ 2098
      le_2098 k h = omega arith

  pub the_value : HasValue (units binary64 false q k) false (q * 2 ^ k) (2 ^ 1074)
  the_value = units_val binary64 false q k under_top

  pub the_fit : T (fits binary64 (units binary64 false q k))
  unfolding units
  the_fit = go (ltb (q * 2 ^ k) (2 ^ 2098)) (lt→ltb (q * 2 ^ k) (2 ^ 2098) under_top)
    where
      go : (b : Bool) → T b → T (fits binary64 (cond b (odd 54 false q k 1074) (inf false)))
      go true t = odd-fits binary64 54 false q k (lt_of_lt_of_le hi (lit≤ tt)) (le_of_lt hi) under_top
      go false t = absurd t

  the_bits : to_bits binary64 (units binary64 false q k) ≡ k * 2 ^ 52 + q
  the_bits =
      let z : size (q * 2 ^ k) - 53 ≡ k = size_at_lem (q * 2 ^ k) 52 k (grown q k lo) (shl_lt 53 k hi) in
      value_bits (units binary64 false q k) (q * 2 ^ k) the_value
      ∙ ap (λ (x : ℕ). x * 2 ^ 52 + q * 2 ^ k / 2 ^ x) z
      ∙ ap (λ (x : ℕ). k * 2 ^ 52 + x) (mul-div_cancel q (pow_pos k))

  pub read_back : of_bits binary64 (k * 2 ^ 52 + q) ≡ units binary64 false q k
  read_back = ap (λ (b : ℕ). of_bits binary64 b) (sym the_bits) ∙ of_bits-to_bits binary64 (units binary64 false q k) the_fit

  pub no_nan_bits : T (not (nan_bits binary64 (k * 2 ^ 52 + q)))
  no_nan_bits =
      subst (λ (b : Bool). T (not b)) (sym (nan_bits_is binary64 (k * 2 ^ 52 + q) ∙ ap is_nan read_back ∙ not_nan (units binary64 false q k) (q * 2 ^ k) the_value)) tt

-- ---- the root of a value
pub root_of_value : (x : Float) (a : ℕ) → 0 < a → HasValue x false a (2 ^ 1074) → root_of x ≡ root_units binary64 a
unfolding root_of
root_of_value nan a p h = absurd h
root_of_value (inf s) a p h = absurd h
root_of_value (fin true m e) a p h = absurd (true≢false h.0)
root_of_value (fin false zero e) a p h =
    absurd (lt_irrefl 0 (subst (λ (x : ℕ). 0 < x) (sym h.1 ∙ ap (λ (x : ℕ). x * 2 ^ 1074) (zero-mul (up e)) ∙ zero-mul (2 ^ 1074)) (mul-pos p (down_pos e))))
root_of_value (fin false (suc m) e) a p h = ap (λ (n : ℕ). root_units binary64 n) (ap (λ (x : ℕ). x / down e) h.1 ∙ mul-div_cancel a (down_pos e))
