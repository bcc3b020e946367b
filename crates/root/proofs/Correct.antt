-- `root_of` is correctly rounded, at every number above zero. Assumes nothing.
use Rattle.std.proofs.Common.{◌≡◌, ℕ, zero, suc, ◌+◌, ◌-◌, ◌*◌, ◌/◌, ◌%◌, ◌^◌, ◌<◌, ◌≤◌, true, false, T, ◌⊎◌, sym, refl, ap, ◌∙◌, subst}
use Rattle.std.proofs.Common.{inl, inr, le_trans, le_of_eq, lt_of_lt_of_le, lt_of_le_of_lt, le_of_lt, lt_irrefl, mul-le-mul_right}
use Rattle.std.proofs.Common.{zero-lt-suc, mul_assoc, add-mul, eq-zero-or-pos, mul-le-mul, lt_of_mul-lt-mul_right, eq-or-lt_of_le}
use Rattle.std.proofs.Common.{mul-lt-mul_of_pos_right, mul-pos, zero-mul, arith, ltb→lt, lt→ltb, pow_pos, pow_mono, pow-add, shl_lt}
use native.Mathlib.Nat.{mul-mul-mul_comm, eq_of_mul-eq-mul_right}
use native.Mathlib.Nat.{mul-lt-mul_of_pos_left}
use lib.Ieee.{Float, nan, inf, fin, binary64, up, down, units, fits, of_bits, to_bits, lt}
use lib.Ieee.Fits.{up_pos, down_pos}
use lib.Ieee.Positive.{positive, first_pos}
use lib.Ieee.Exact.{HasValue}
use lib.Ieee.Bits.{of_bits-to_bits, is_true}
use Rattle.float.specs.Units.{rep}
use Rattle.float.specs.Order.{nought}
use Rattle.root.specs.Root.{whole_root, root_of}
use Rattle.root.specs.Steps.{nearest_root, bit_units, Scaled, Paired}
use Rattle.root.specs.Law.{Number, CorrectlyRounded, SquareRoot}
use Rattle.root.proofs.Squares.{Root, sq_odd, sq_suc, is_root, round_down, round_up, lt_or_ge}
use Rattle.root.proofs.Values.{Range, root_range, root_at, nearest_range, root_of_value, the_value, the_fit, value_bits}
use Rattle.root.proofs.Patterns.{shift_is, split_even, above_zero_bits, value_of_bits, top_of_bits, unsigned, scaled_low, scaled_high, paired_odd}

-- ---- the rounded root of n, by squares
pub nearest_bounds : (n q : ℕ) → q ≡ nearest_root n → Range n → (q * q < n + q) × (n ≤ q * q + q)
nearest_bounds n q e v = go (lt_or_ge (w * w + w) n)
  where
    w : ℕ
    w = whole_root n

    h : Root n w
    h = is_root n

    k : (2 ^ 52 ≤ w) × (w < 2 ^ 53)
    k = root_range n w v h

    go : (w * w + w < n) ⊎ (n ≤ w * w + w) → (q * q < n + q) × (n ≤ q * q + q)
    go (inl g) = subst (λ (r : ℕ). (r * r < n + r) × (n ≤ r * r + r)) (round_up n w h g ∙ sym e) (up w h.1 g)
      where
        up : (w : ℕ) → n < (w + 1) * (w + 1) → w * w + w < n → ((w + 1) * (w + 1) < n + (w + 1)) × (n ≤ (w + 1) * (w + 1) + (w + 1))
        up w l g = let s = sq_suc w in (omega arith, omega arith)
    go (inr g) = subst (λ (r : ℕ). (r * r < n + r) × (n ≤ r * r + r)) (round_down n w h g ∙ sym e) (down' w h.0 k.0 g)
      where
        down' : (w : ℕ) → w * w ≤ n → 2 ^ 52 ≤ w → n ≤ w * w + w → (w * w < n + w) × (n ≤ w * w + w)
        down' w l p g = (omega arith, g)

-- ---- a number of the format in units, from 2 ^ (52 + k) on, is a multiple of 2 ^ k
multiple_from : (m j k Y : ℕ) → m < 2 ^ 53 → Y ≡ m * 2 ^ j → 2 ^ (52 + k) ≤ Y → (t : ℕ) × (Y ≡ t * 2 ^ k)
multiple_from m j k Y h e l = go (lt_or_ge j k)
  where
    go : (j < k) ⊎ (k ≤ j) → (t : ℕ) × (Y ≡ t * 2 ^ k)
    go (inl g) = absurd (lt_irrefl Y (lt_of_lt_of_le (subst (λ (x : ℕ). x < 2 ^ (53 + j)) (sym e) (shl_lt 53 j h)) (le_trans (pow_mono (more j k g)) l)))
      where
        more : (j k : ℕ) → j < k → 53 + j ≤ 52 + k
        more j k h = omega arith
    go (inr g) = (m * 2 ^ (j - k), e ∙ sym (shift_is m (j - k) k j (less j k g)))
      where
        less : (j k : ℕ) → k ≤ j → j - k + k ≡ j
        less j k h = omega arith

multiple : (y : Float) (Y k : ℕ) → Number y Y → 2 ^ (52 + k) ≤ Y → (t : ℕ) × (Y ≡ t * 2 ^ k)
multiple y Y k v l = let r = rep y Y v.0 v.1 in multiple_from r.0 r.1 k Y r.2 r.3 l

-- ---- the middles' squares, p being 2 ^ k
squares_lt : (a b : ℕ) → a < b → a * a < b * b
squares_lt a b h = lt_of_le_of_lt (mul-le-mul_right a (le_of_lt h)) (mul-lt-mul_of_pos_left h (lt_of_le_of_lt (any a) h))
  where
    any : (a : ℕ) → 0 ≤ a
    any a = omega arith

scaled_square : (r p : ℕ) → (2 * r + 1) * p * ((2 * r + 1) * p) ≡ (2 * r + 1) * (2 * r + 1) * (p * p)
scaled_square r p = mul-mul-mul_comm (2 * r + 1) p (2 * r + 1) p

above_middle : (n q p M Y : ℕ) → 0 < p → n ≤ q * q + q → M ≡ n * (p * p) → (q + 1) * p ≤ Y → 4 * M < (q * p + Y) * (q * p + Y)
above_middle n q p M Y P h e l =
    let o = sq_odd q in
    let c : 4 * n < (2 * q + 1) * (2 * q + 1) = omega arith in
    let s : (2 * q + 1) * p ≡ q * p + (q + 1) * p = ap (λ (x : ℕ). x * p) (sum q) ∙ add-mul q (q + 1) p in
    let b : (2 * q + 1) * p ≤ q * p + Y = omega arith in
    lt_of_le_of_lt (le_of_eq (ap (λ (x : ℕ). 4 * x) e ∙ sym (mul_assoc 4 n (p * p))))
    (lt_of_lt_of_le (mul-lt-mul_of_pos_right c (mul-pos P P)) (le_trans (le_of_eq (sym (scaled_square q p))) (mul-le-mul b b)))
  where
    sum : (q : ℕ) → 2 * q + 1 ≡ q + (q + 1)
    sum q = omega arith

below_middle : (n r p M Y : ℕ) → 0 < p → (r + 1) * (r + 1) < n + (r + 1) → M ≡ n * (p * p) → Y ≤ r * p → ((r + 1) * p + Y) * ((r + 1) * p + Y) < 4 * M
below_middle n r p M Y P h e l =
    let o = sq_odd r in
    let i = sq_suc r in
    let c : (2 * r + 1) * (2 * r + 1) < 4 * n = omega arith in
    let s : (2 * r + 1) * p ≡ (r + 1) * p + r * p = ap (λ (x : ℕ). x * p) (sum r) ∙ add-mul (r + 1) r p in
    let b : (r + 1) * p + Y ≤ (2 * r + 1) * p = omega arith in
    lt_of_lt_of_le (lt_of_le_of_lt (le_trans (mul-le-mul b b) (le_of_eq (scaled_square r p))) (mul-lt-mul_of_pos_right c (mul-pos P P)))
    (le_of_eq (sym (ap (λ (x : ℕ). 4 * x) e ∙ sym (mul_assoc 4 n (p * p)))))
  where
    sum : (r : ℕ) → 2 * r + 1 ≡ r + 1 + r
    sum r = omega arith

-- at a power of two the numbers below lie closer, and there the root is not below r
edge_middle : (n q p M Y : ℕ) → q * q ≤ n → M ≡ n * (p * p) → Y < q * p → (q * p + Y) * (q * p + Y) < 4 * M
edge_middle n q p M Y h e l =
    let b : q * p + Y < 2 * (q * p) = omega arith in
    lt_of_lt_of_le (squares_lt (q * p + Y) (2 * (q * p)) b)
    (le_trans (le_of_eq (mul-mul-mul_comm 2 (q * p) 2 (q * p)))
    (quad (q * p * (q * p)) M (le_trans (le_of_eq (mul-mul-mul_comm q p q p)) (le_trans (mul-le-mul_right (p * p) h) (le_of_eq (sym e))))))
  where
    quad : (a b : ℕ) → a ≤ b → 4 * a ≤ 4 * b
    quad a b h = omega arith

-- ---- any other number of the format
module _ (n q k M : ℕ) (v : Range n) (is : q ≡ nearest_root n) (e : M ≡ n * (2 ^ k * 2 ^ k)) where
  range : (2 ^ 52 ≤ q) × (q < 2 ^ 53)
  range = subst (λ (r : ℕ). (2 ^ 52 ≤ r) × (r < 2 ^ 53)) (sym is) (nearest_range n v)

  bounds : (q * q < n + q) × (n ≤ q * q + q)
  bounds = nearest_bounds n q is v

  reached : 2 ^ (52 + k) ≤ q * 2 ^ k
  reached = le_trans (le_of_eq (pow-add 2 52 k)) (mul-le-mul_right (2 ^ k) range.0)

  pub above_any : (y : Float) (Y : ℕ) → Number y Y → q * 2 ^ k < Y → 4 * M < (q * 2 ^ k + Y) * (q * 2 ^ k + Y)
  above_any y Y N l =
      let t = multiple y Y k N (le_trans reached (le_of_lt l)) in
      let g : q < t.0 = lt_of_mul-lt-mul_right (2 ^ k) (lt_of_lt_of_le l (le_of_eq t.1)) in
      above_middle n q (2 ^ k) M Y (pow_pos k) bounds.1 e (le_trans (mul-le-mul_right (2 ^ k) (next q t.0 g)) (le_of_eq (sym t.1)))
    where
      next : (q t : ℕ) → q < t → q + 1 ≤ t
      next q t h = omega arith

  pub below_any : (y : Float) (Y : ℕ) → Number y Y → Y < q * 2 ^ k → (q * 2 ^ k + Y) * (q * 2 ^ k + Y) < 4 * M
  below_any y Y N l = go (eq-or-lt_of_le range.0)
    where
      past : (q : ℕ) → 2 ^ 52 < q → q ≡ q - 1 + 1
      past q h = omega arith

      under : (q t : ℕ) → t < q → t ≤ q - 1
      under q t h = omega arith

      short : 2 ^ 52 < q → Y ≤ (q - 1) * 2 ^ k
      short g = at (lt_or_ge Y (2 ^ (52 + k)))
        where
          at : (Y < 2 ^ (52 + k)) ⊎ (2 ^ (52 + k) ≤ Y) → Y ≤ (q - 1) * 2 ^ k
          at (inl s) = le_trans (le_of_lt s) (le_trans (le_of_eq (pow-add 2 52 k)) (mul-le-mul_right (2 ^ k) (under q (2 ^ 52) g)))
          at (inr s) =
              let t = multiple y Y k N s in
              let h : t.0 < q = lt_of_mul-lt-mul_right (2 ^ k) (lt_of_le_of_lt (le_of_eq (sym t.1)) l) in
              le_trans (le_of_eq t.1) (mul-le-mul_right (2 ^ k) (under q t.0 h))

      go : (2 ^ 52 ≡ q) ⊎ (2 ^ 52 < q) → (q * 2 ^ k + Y) * (q * 2 ^ k + Y) < 4 * M
      go (inl g) = edge_middle n q (2 ^ k) M Y (subst (λ (x : ℕ). x * x ≤ n) g v.0) e l
      go (inr g) =
          subst (λ (x : ℕ). (x * 2 ^ k + Y) * (x * 2 ^ k + Y) < 4 * M) (sym (past q g))
          (below_middle n (q - 1) (2 ^ k) M Y (pow_pos k) (subst (λ (x : ℕ). x * x < n + x) (past q g) bounds.0) e (short g))

-- ---- every pattern above 0 and below infinity's has an even exponent to be written with
pair_of : (b : ℕ) → 0 < b → b < 0x7ff0_0000_0000_0000 → (m : ℕ) × (g : ℕ) × Paired b m g
pair_of b p l = elim (eq-zero-or-pos (b / 2 ^ 52)) [
  | inl z ↦ even _ _ (scaled_low b b refl p z)
  | inr g ↦ even _ _ (scaled_high b (b % 2 ^ 52) refl l (apart (b / 2 ^ 52) g))
]
  where
    apart : (n : ℕ) → 0 < n → n ≡ 0 → ⊥
    apart n h e = omega arith

    even : (m g : ℕ) → Scaled b m g → (m : ℕ) × (g : ℕ) × Paired b m g
    even m g v = elim (eq-zero-or-pos (g % 2)) [
      | inl z ↦ (m, g, record { least = v.least; most = omega (arith, v.most); even = z; deep = v.deep; high = v.high; is = v.is })
      | inr o ↦ (m * 2, g - 1, paired_odd b m g v (apart (g % 2) o))
    ]

positive_above : (x : Float) → T (positive x) → lt nought x ≡ true
unfolding lt
positive_above nan p = absurd p
positive_above (inf s) p = absurd p
positive_above (fin true m e) p = absurd p
positive_above (fin false m e) p =
    is_true _ (lt→ltb (0 * down e) (m * up e * 1) (subst (λ (y : ℕ). y < m * up e * 1) (sym (zero-mul (down e))) (mul-pos (mul-pos (ltb→lt 0 m p) (up_pos e)) (zero-lt-suc 0))))

finite_bits : (x : Float) → T (fits binary64 x) → T (positive x) → to_bits binary64 x < 0x7ff0_0000_0000_0000
finite_bits x f p = go (lt_or_ge b 0x7ff0_0000_0000_0000)
  where
    b : ℕ
    b = to_bits binary64 x

    back : of_bits binary64 b ≡ x
    back = of_bits-to_bits binary64 x f

    go : (b < 0x7ff0_0000_0000_0000) ⊎ (0x7ff0_0000_0000_0000 ≤ b) → b < 0x7ff0_0000_0000_0000
    go (inl g) = g
    go (inr g) = elim (top_of_bits b g (unsigned x f (positive_above x p))) [
      | inl e ↦ absurd (subst (λ (v : Float). T (positive v)) (sym back ∙ e) p)
      | inr e ↦ absurd (subst (λ (v : Float). T (positive v)) (sym back ∙ e) p)
    ]

-- At every number of the format that is finite and above zero, `root_of` is correctly rounded.
pub root_correct : (x : Float) → T (fits binary64 x) → T (positive x) → CorrectlyRounded x (root_of x)
root_correct x f p =
    let b = to_bits binary64 x in
    let h : lt nought x ≡ true = positive_above x p in
    let l : b < 0x7ff0_0000_0000_0000 = finite_bits x f p in
    let s = pair_of b (above_zero_bits x f h) l in
    let m = s.0 in
    let g = s.1 in
    let v : Paired b m g = s.2 in
    let k = g / 2 - 26 in
    let a = bit_units b in
    let n = m * 2 ^ 52 in
    let q = nearest_root n in
    let w : Range n = (mul-le-mul_right (2 ^ 52) v.least, mul-le-mul_right (2 ^ 52) v.most) in
    let r = nearest_range n w in
    let e : a * 2 ^ 1074 ≡ n * (2 ^ k * 2 ^ k) = sym v.is ∙ sym (shift_is m 52 (k + k) g (split_even g v.deep v.even))
    ∙ ap (λ (y : ℕ). n * y) (pow-add 2 k k) in
    let val : HasValue x false a (2 ^ 1074) = subst (λ (y : Float). HasValue y false a (2 ^ 1074)) (of_bits-to_bits binary64 x f) (value_of_bits b l) in
    let z : 0 < a = first_pos a (2 ^ 1074) (subst (λ (y : ℕ). 0 < y) v.is (mul-pos (lt_of_lt_of_le (pow_pos 52) v.least) (pow_pos g))) in
    let small : k ≤ 2000 = within g v.high in
    let u : root_of x ≡ units binary64 false q k = root_of_value x a z val ∙ root_at n k a w e in
    record {
      X = a;
      R = q * 2 ^ k;
      operand = (f, val);
      result = subst (λ (y : Float). Number y (q * 2 ^ k)) (sym u) (the_fit q k r.0 r.1 small, the_value q k r.0 r.1 small);
      above = above_any n q k (a * 2 ^ 1074) w refl e;
      below = below_any n q k (a * 2 ^ 1074) w refl e;
    }
  where
    within : (g : ℕ) → g ≤ 3120 → g / 2 - 26 ≤ 2000
    within g h = omega arith

-- ---- no other value is correctly rounded
same_units : (x : Float) (a b : ℕ) → HasValue x false a (2 ^ 1074) → HasValue x false b (2 ^ 1074) → a ≡ b
same_units nan a b h k = absurd h
same_units (inf s) a b h k = absurd h
same_units (fin s m e) a b h k = eq_of_mul-eq-mul_right (down e) (down_pos e) a b (sym h.1 ∙ k.1)

value_unique : (x y : Float) (a : ℕ) → Number x a → Number y a → x ≡ y
value_unique x y a h k =
    sym (of_bits-to_bits binary64 x h.0) ∙ ap (λ (b : ℕ). of_bits binary64 b) (value_bits x a h.1 ∙ sym (value_bits y a k.1)) ∙ of_bits-to_bits binary64 y k.0

pub only_one : (x r t : Float) → CorrectlyRounded x r → CorrectlyRounded x t → r ≡ t
only_one x r t c d = value_unique r t c.R c.result (subst (λ (n : ℕ). Number t n) (sym same) d.result)
  where
    e : c.X ≡ d.X
    e = same_units x c.X d.X c.operand.1 d.operand.1

    sum : (a b : ℕ) → (a + b) * (a + b) ≡ (b + a) * (b + a)
    sum a b = let h : a + b ≡ b + a = omega arith in ap (λ (n : ℕ). n * n) h

    no : (m a b : ℕ) → a ≡ b → m < a → b < m → ⊥
    no m a b h k l = omega arith

    go : (a b : ℕ) → (a < b) ⊎ (b ≤ a) → (b < a) ⊎ (a ≤ b) → (a < b → ⊥) → (b < a → ⊥) → a ≡ b
    go a b (inl g) k u v = absurd (u g)
    go a b (inr g) (inl k) u v = absurd (v k)
    go a b (inr g) (inr k) u v = omega arith

    same : c.R ≡ d.R
    same =
        go c.R d.R (lt_or_ge c.R d.R) (lt_or_ge d.R c.R)
        (λ g. no (4 * (c.X * 2 ^ 1074)) ((c.R + d.R) * (c.R + d.R)) ((d.R + c.R) * (d.R + c.R)) (sum c.R d.R)
        (c.above t d.R d.result g)
        (subst (λ (n : ℕ). (d.R + c.R) * (d.R + c.R) < 4 * (n * 2 ^ 1074)) (sym e) (d.below r c.R c.result g)))
        (λ g. no (4 * (d.X * 2 ^ 1074)) ((d.R + c.R) * (d.R + c.R)) ((c.R + d.R) * (c.R + d.R)) (sum d.R c.R)
        (d.above r c.R c.result g)
        (subst (λ (n : ℕ). (c.R + d.R) * (c.R + d.R) < 4 * (n * 2 ^ 1074)) e (c.below t d.R d.result g)))

-- ---- THE LAW: `root_of` is the standard's operation at every value of the format, and nothing else is.
pub root_law : (x : Float) → T (fits binary64 x) → SquareRoot x (root_of x)
root_law nan f = unfold root_of in refl
root_law (inf true) f = unfold root_of in refl
root_law (inf false) f = unfold root_of in refl
root_law (fin s zero e) f = unfold root_of in refl
root_law (fin true (suc m) e) f = unfold root_of in refl
root_law (fin false (suc m) e) f = root_correct (fin false (suc m) e) f (lt→ltb 0 (suc m) (zero-lt-suc m))

pub only_law : (x r : Float) → T (fits binary64 x) → SquareRoot x r → r ≡ root_of x
only_law nan r f h = unfold root_of in h
only_law (inf true) r f h = unfold root_of in h
only_law (inf false) r f h = unfold root_of in h
only_law (fin s zero e) r f h = unfold root_of in h
only_law (fin true (suc m) e) r f h = unfold root_of in h
only_law (fin false (suc m) e) r f h = only_one (fin false (suc m) e) r (root_of (fin false (suc m) e)) h (root_law (fin false (suc m) e) f)

-- the same of what is the root of a value of the format
pub lawful : (x r : Float) → fits binary64 x ≡ true → r ≡ root_of x → SquareRoot x r
lawful x r f e = subst (λ (y : Float). SquareRoot x y) (sym e) (root_law x (subst T (sym f) tt))
