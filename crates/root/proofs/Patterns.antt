-- Bit patterns of binary64 as numbers of the smallest values, and what `root` makes of one. Assumes nothing.
use Rattle.std.proofs.Common.{◌≡◌, ℕ, zero, suc, ◌+◌, ◌-◌, ◌*◌, ◌/◌, ◌%◌, ◌^◌, ◌<◌, ◌≤◌, Bool, true, false, cond, not, ◌&&◌, ◌||◌, T, eqb}
use Rattle.std.proofs.Common.{leb, ◌⊎◌, sym, refl, ap, ◌∙◌, subst, inl, inr, true≢false, le_trans, le_of_eq, lt_of_lt_of_le, lt_irrefl}
use Rattle.std.proofs.Common.{mul-le-mul_right, mod-lt, mod-eq_of_lt, zero-lt-suc, mul_assoc, eq-zero-or-pos, mul-lt-mul_of_pos_right}
use Rattle.std.proofs.Common.{mul-pos, lt_of_not-le, zero-mul, mul-one, arith, lit<, lit≤, eqb→eq, lt→ltb, pow_pos, pow_mono, pow-add}
use mathlib.Core.Bool.{beq, false≢true}
use lib.Dec.{not_T}
use lib.Arith.{lt→nleb}
use lib.Bits.{bit_and, and_mask}
use lib.Count.{count_leading_zeros, leading_top}
use lib.Ieee.{Float, nan, inf, fin, binary64, up, down, size, odd, neg, nan_bits, fits, of_fields, of_bits, to_bits, lt, eq}
use lib.Ieee.Fits.{up_pos, neg-fits, and_l}
use lib.Ieee.Positive.{first_pos}
use lib.Ieee.Exact.{HasValue, odd_sign}
use lib.Ieee.Bits.{of_bits-to_bits, to_bits-lt, is_false, cond_no}
use Rattle.float.specs.Order.{nought}
use Rattle.root.specs.Root.{root_of}
use Rattle.root.specs.Steps.{nearest_root, field_units, bit_units, Scaled, Paired}
use Rattle.root.proofs.Values.{Range, root_at, read_back, no_nan_bits, nearest_range, root_of_value}

-- ---- the digits of a pattern whose field is 0
power_below : (j d : ℕ) → 2 ^ j ≤ d → d < 2 ^ 52 → j < 52
power_below j d h l = lt_of_not-le (λ (g : 52 ≤ j). lt_irrefl d (lt_of_lt_of_le l (le_trans (pow_mono g) h)))

pub shift_is : (d s t n : ℕ) → s + t ≡ n → d * 2 ^ s * 2 ^ t ≡ d * 2 ^ n
shift_is d s t n e = mul_assoc d (2 ^ s) (2 ^ t) ∙ ap (λ (x : ℕ). d * x) (sym (pow-add 2 s t) ∙ ap (λ (x : ℕ). 2 ^ x) e)

-- moved up by its leading zeros, less the 11 that 53 digits have, a number below 2 ^ 52 has 53 digits
pub record Moved (d z : ℕ) : Type 0 where
  pub few : 12 ≤ z
  pub many : z ≤ 63
  pub least : 2 ^ 52 ≤ d * 2 ^ (z - 11)
  pub most : d * 2 ^ (z - 11) < 2 ^ 53

pub moved : (d : ℕ) → 0 < d → d < 2 ^ 52 → Moved d (count_leading_zeros 64 d)
moved d p h =
    let t = leading_top 64 d p (lt_of_lt_of_le h (lit≤ tt)) in
    let j = t.0 in
    let z = count_leading_zeros 64 d in
    let l : j < 52 = power_below j d t.2 h in
    let e : j + (z - 11) ≡ 52 = omega (arith, t.1) in
    let f : suc j + (z - 11) ≡ 53 = omega (arith, t.1) in
    record {
      few = omega (arith, t.1);
      many = omega (arith, t.1);
      least = le_trans (le_of_eq (ap (λ (x : ℕ). 2 ^ x) (sym e) ∙ pow-add 2 j (z - 11))) (mul-le-mul_right (2 ^ (z - 11)) t.2);
      most = lt_of_lt_of_le (mul-lt-mul_of_pos_right t.3 (pow_pos (z - 11))) (le_of_eq (sym (pow-add 2 (suc j) (z - 11)) ∙ ap (λ (x : ℕ). 2 ^ x) f));
    }

pub masked : (b : ℕ) → bit_and b 0xf_ffff_ffff_ffff ≡ b % 2 ^ 52
masked b = and_mask b 52

pub low_digits : (b : ℕ) → b / 2 ^ 52 ≡ 0 → b % 2 ^ 52 ≡ b
low_digits b e = omega arith

pub low_moved : (b : ℕ) → 0 < b → b / 2 ^ 52 ≡ 0 → Moved b (count_leading_zeros 64 b)
low_moved b p e = moved b p (omega arith)

-- ---- `bit_units`
pub units_low : (b : ℕ) → b / 2 ^ 52 ≡ 0 → bit_units b ≡ b
unfolding bit_units
units_low b e = ap (λ (x : ℕ). field_units x (b % 2 ^ 52)) e ∙ low_digits b e

pub units_high : (b x : ℕ) → b / 2 ^ 52 ≡ suc x → bit_units b ≡ (2 ^ 52 + b % 2 ^ 52) * 2 ^ x
unfolding bit_units
units_high b x e = ap (λ (y : ℕ). field_units y (b % 2 ^ 52)) e

-- ---- what `scaled` returns
pub scaled_low : (b d : ℕ) → d ≡ b → 0 < b → b / 2 ^ 52 ≡ 0 → Scaled b (d * 2 ^ (count_leading_zeros 64 d - 11) % 2 ^ 64) (1074 - (count_leading_zeros 64 d - 11))
scaled_low b d q p e =
    let v : Moved d (count_leading_zeros 64 d) = subst (λ (x : ℕ). Moved x (count_leading_zeros 64 x)) (sym q) (low_moved b p e) in
    let s = count_leading_zeros 64 d - 11 in
    let f : d * 2 ^ s % 2 ^ 64 ≡ d * 2 ^ s = mod-eq_of_lt (lt_of_lt_of_le v.most (lit≤ tt)) in
    record {
      least = rw f v.least;
      most = rw f v.most;
      deep = omega (arith, v.many);
      high = omega arith;
      is = ap (λ (x : ℕ). x * 2 ^ (1074 - s)) f ∙ shift_is d s (1074 - s) 1074 (within s (omega (arith, v.many)))
          ∙ ap (λ (x : ℕ). x * 2 ^ 1074) (q ∙ sym (units_low b e));
    }
  where
    within : (s : ℕ) → s ≤ 52 → s + (1074 - s) ≡ 1074
    within s h = omega arith

pub scaled_high : (b d : ℕ) → d ≡ b % 2 ^ 52 → b < 0x7ff0_0000_0000_0000 → (b / 2 ^ 52 ≡ 0 → ⊥) → Scaled b (d + 2 ^ 52) (b / 2 ^ 52 + 1073)
scaled_high b d q h n =
    let x = b / 2 ^ 52 - 1 in
    let e : b / 2 ^ 52 ≡ suc x = omega arith in
    let l : d < 2 ^ 52 = subst (λ (t : ℕ). t < 2 ^ 52) (sym q) (mod-lt b (pow_pos 52)) in
    let o : x + 1074 ≡ b / 2 ^ 52 + 1073 = omega arith in
    let c : d + 2 ^ 52 ≡ 2 ^ 52 + b % 2 ^ 52 = omega arith in
    record {
      least = omega arith;
      most = omega arith;
      deep = omega arith;
      high = omega arith;
      is = sym (ap (λ (y : ℕ). y * 2 ^ 1074) (units_high b x e) ∙ shift_is (2 ^ 52 + b % 2 ^ 52) x 1074 (b / 2 ^ 52 + 1073) o ∙ ap (λ (y : ℕ). y * 2 ^ (b / 2 ^ 52 + 1073)) (sym c));
    }

-- ---- what `paired` returns
pub paired_odd : (b m g : ℕ) → Scaled b m g → (g % 2 ≡ 0 → ⊥) → Paired b (m * 2) (g - 1)
paired_odd b m g v n = record {
  least = omega (arith, v.least);
  most = omega (arith, v.most);
  even = omega arith;
  deep = omega (arith, v.deep);
  high = omega (arith, v.high);
  is = shift_is m 1 (g - 1) g (back g (omega (arith, v.deep))) ∙ v.is;
}
  where
    back : (g : ℕ) → 1 ≤ g → 1 + (g - 1) ≡ g
    back g h = omega arith

-- ---- patterns as values
parts : (b : ℕ) → b < 2 ^ 63 → of_bits binary64 b ≡ of_fields binary64 false (b / 2 ^ 52) (b % 2 ^ 52)
unfolding of_bits
parts b h =
    ap (λ (s : Bool). of_fields binary64 s (b % 2 ^ 63 / 2 ^ 52) (b % 2 ^ 52)) (is_false (leb (2 ^ 63) b) (lt→nleb (2 ^ 63) b h))
    ∙ ap (λ (y : ℕ). of_fields binary64 false (y / 2 ^ 52) (b % 2 ^ 52)) (mod-eq_of_lt h)

field_value : (x t : ℕ) → x < 2047 → HasValue (of_fields binary64 false x t) false (field_units x t) (2 ^ 1074)
unfolding of_fields field_units
field_value zero t h = subst (λ (y : ℕ). HasValue (odd 53 false t 0 1074) false y (2 ^ 1074)) (mul-one t) (odd_sign 53 false t 0 1074)
field_value (suc x) t h =
    subst (λ (v : Float). HasValue v false ((2 ^ 52 + t) * 2 ^ x) (2 ^ 1074)) (sym (cond_no (eqb (suc x) 2047) (cond (eqb t 0) (inf false) nan) (odd 53 false (2 ^ 52 + t) x 1074) (unequal x h)))
    (odd_sign 53 false (2 ^ 52 + t) x 1074)
  where
    unequal : (x : ℕ) → suc x < 2047 → T (not (eqb (suc x) 2047))
    unequal x h = not_T (eqb (suc x) 2047) (λ t. differs (eqb→eq (suc x) 2047 t))
      where
        differs : suc x ≡ 2047 → ⊥
        differs e = omega arith

pub value_of_bits : (b : ℕ) → b < 0x7ff0_0000_0000_0000 → HasValue (of_bits binary64 b) false (bit_units b) (2 ^ 1074)
unfolding bit_units
value_of_bits b h = subst (λ (v : Float). HasValue v false (field_units (b / 2 ^ 52) (b % 2 ^ 52)) (2 ^ 1074)) (sym (parts b (omega arith))) (field_value (b / 2 ^ 52) (b % 2 ^ 52) (omega arith))

pub top_of_bits : (b : ℕ) → 0x7ff0_0000_0000_0000 ≤ b → b < 2 ^ 63 → (of_bits binary64 b ≡ inf false) ⊎ (of_bits binary64 b ≡ nan)
unfolding of_fields
top_of_bits b h l = go (eqb (b % 2 ^ 52) 0) (parts b l ∙ ap (λ (y : ℕ). of_fields binary64 false y (b % 2 ^ 52)) (full b h l))
  where
    full : (b : ℕ) → 0x7ff0_0000_0000_0000 ≤ b → b < 2 ^ 63 → b / 2 ^ 52 ≡ 2047
    full b h l = omega arith

    go : (t : Bool) → of_bits binary64 b ≡ cond t (inf false) nan → (of_bits binary64 b ≡ inf false) ⊎ (of_bits binary64 b ≡ nan)
    go true e = inl e
    go false e = inr e

-- ---- a value above 0
-- its pattern has no sign
room : (a b : ℕ) → 2 ^ 63 + a + b < 2 ^ 64 → 0 + a + b < 2 ^ 63
room a b h = omega arith

pub unsigned : (x : Float) → T (fits binary64 x) → lt nought x ≡ true → to_bits binary64 x < 2 ^ 63
unfolding lt to_bits
unsigned nan f h = absurd (false≢true h)
unsigned (inf true) f h = absurd (false≢true h)
unsigned (inf false) f h = lit< tt
unsigned (fin true m e) f h = absurd (false≢true h)
unsigned (fin false m e) f h =
    room ((size (m * up e * 2 ^ 1074 / down e) - 53) * 2 ^ 52) (m * up e * 2 ^ 1074 / down e / 2 ^ (size (m * up e * 2 ^ 1074 / down e) - 53))
    (to_bits-lt binary64 (fin true m e) (unfold neg in neg-fits binary64 (fin false m e) f))

pub above_zero_bits : (x : Float) → T (fits binary64 x) → lt nought x ≡ true → 0 < to_bits binary64 x
unfolding lt of_bits
above_zero_bits x f h = elim (eq-zero-or-pos (to_bits binary64 x)) [
  | inl z ↦ absurd (false≢true (ap (λ (v : Float). lt nought v) (ap (λ (b : ℕ). of_bits binary64 b) (sym z) ∙ of_bits-to_bits binary64 x f) ∙ h))
  | inr p ↦ p
]

pub above_top_root : (x : Float) → T (fits binary64 x) → lt nought x ≡ true → 0x7ff0_0000_0000_0000 ≤ to_bits binary64 x → x ≡ root_of x
unfolding root_of lt
above_top_root x f h l =
    let b = to_bits binary64 x in
    let r : of_bits binary64 b ≡ x = of_bits-to_bits binary64 x f in
    elim (top_of_bits b l (unsigned x f h)) [
      | inl e ↦ let v : x ≡ inf false = sym r ∙ e in v ∙ ap root_of (sym v)
      | inr e ↦ absurd (false≢true (ap (λ (v : Float). lt nought v) (sym e ∙ r) ∙ h))
    ]

-- ---- the root of a value above 0
pub split_even : (g : ℕ) → 1022 ≤ g → g % 2 ≡ 0 → 52 + (g / 2 - 26 + (g / 2 - 26)) ≡ g
split_even g h e = omega arith

pub root_bits : (x : Float) (m g : ℕ) → T (fits binary64 x) → lt nought x ≡ true → to_bits binary64 x < 0x7ff0_0000_0000_0000 → Paired (to_bits binary64 x) m g
    → T (not (nan_bits binary64 ((g / 2 - 26) * 2 ^ 52 + nearest_root (m * 2 ^ 52)))) × (of_bits binary64 ((g / 2 - 26) * 2 ^ 52 + nearest_root (m * 2 ^ 52)) ≡ root_of x)
root_bits x m g f h l v =
    let b = to_bits binary64 x in
    let k = g / 2 - 26 in
    let a = bit_units b in
    let n = m * 2 ^ 52 in
    let small : k ≤ 2000 = within g v.high in
    let w : Range n = (mul-le-mul_right (2 ^ 52) v.least, mul-le-mul_right (2 ^ 52) v.most) in
    let r = nearest_range n w in
    let e : a * 2 ^ 1074 ≡ n * (2 ^ k * 2 ^ k) = sym v.is ∙ sym (shift_is m 52 (k + k) g (split_even g v.deep v.even))
    ∙ ap (λ (y : ℕ). n * y) (pow-add 2 k k) in
    let p : 0 < a = first_pos a (2 ^ 1074) (subst (λ (y : ℕ). 0 < y) v.is (mul-pos (lt_of_lt_of_le (lit< tt) v.least) (pow_pos g))) in
    let val : HasValue x false a (2 ^ 1074) = subst (λ (y : Float). HasValue y false a (2 ^ 1074)) (of_bits-to_bits binary64 x f) (value_of_bits b l) in
    (no_nan_bits (nearest_root n) k r.0 r.1 small, read_back (nearest_root n) k r.0 r.1 small ∙ sym (root_at n k a w e) ∙ sym (root_of_value x a p val))
  where
    within : (g : ℕ) → g ≤ 3120 → g / 2 - 26 ≤ 2000
    within g h = omega arith

-- ---- the other values
pub zero_root : (x : Float) → eq x nought ≡ true → x ≡ root_of x
unfolding eq root_of
zero_root nan h = absurd (false≢true h)
zero_root (inf s) h = absurd (false≢true h)
zero_root (fin s zero e) h = refl
zero_root (fin s (suc m) e) h =
    absurd (positive_zero (suc m * up e * 1) (0 * down e) (mul-pos (mul-pos (zero-lt-suc m) (up_pos e)) (zero-lt-suc 0)) (zero-mul (down e))
    (eqb→eq (suc m * up e * 1) (0 * down e) (and_l (eqb (suc m * up e * 1) (0 * down e)) (beq s false || eqb (suc m * up e * 1) 0) (subst T (sym h) tt))))
  where
    positive_zero : (a b : ℕ) → 0 < a → b ≡ 0 → a ≡ b → ⊥
    positive_zero a b p z e = omega arith

level_zero : (s : Bool) (a b : ℕ) → a ≡ 0 → b ≡ 0 → T (eqb a b && (beq s false || eqb a 0))
level_zero s a b p q = subst (λ (x : ℕ). T (eqb x b && (beq s false || eqb x 0))) (sym p) (subst (λ (y : ℕ). T (eqb 0 y && (beq s false || eqb 0 0))) (sym q) (at s))
  where
    at : (s : Bool) → T (eqb 0 0 && (beq s false || eqb 0 0))
    at true = tt
    at false = tt

pub no_root : (x : Float) → lt nought x ≡ false → eq x nought ≡ false → nan ≡ root_of x
unfolding lt eq root_of
no_root nan h k = refl
no_root (inf true) h k = refl
no_root (inf false) h k = absurd (true≢false h)
no_root (fin s zero e) h k = absurd (subst T k (level_zero s (0 * up e * 1) (0 * down e) (ap (λ (y : ℕ). y * 1) (zero-mul (up e))) (zero-mul (down e))))
no_root (fin true (suc m) e) h k = refl
no_root (fin false (suc m) e) h k =
    absurd (subst T h (lt→ltb (0 * down e) (suc m * up e * 1) (subst (λ (y : ℕ). y < suc m * up e * 1) (sym (zero-mul (down e))) (mul-pos (mul-pos (zero-lt-suc m) (up_pos e)) (zero-lt-suc 0)))))

-- ---- as the code writes it
pub made : (x : Float) (m g q : ℕ) → T (fits binary64 x) → lt nought x ≡ true → to_bits binary64 x < 0x7ff0_0000_0000_0000
    → Paired (to_bits binary64 x) m g → q ≡ nearest_root (m * 2 ^ 52)
    → (q < 2 ^ 53) × T (not (nan_bits binary64 ((g / 2 - 26) * 2 ^ 52 % 2 ^ 64 + q))) × (of_bits binary64 ((g / 2 - 26) * 2 ^ 52 % 2 ^ 64 + q) ≡ root_of x)
made x m g q f h l v e =
    let n = m * 2 ^ 52 in
    let r = root_bits x m g f h l v in
    let w : Range n = (mul-le-mul_right (2 ^ 52) v.least, mul-le-mul_right (2 ^ 52) v.most) in
    let z : (g / 2 - 26) * 2 ^ 52 % 2 ^ 64 + q ≡ (g / 2 - 26) * 2 ^ 52 + nearest_root n =
    ap (λ (y : ℕ). y + q) (shifted g v.high) ∙ ap (λ (y : ℕ). (g / 2 - 26) * 2 ^ 52 + y) e in
    (rw e (nearest_range n w).1, rw z r.0, ap (λ (y : ℕ). of_bits binary64 y) z ∙ r.1)
  where
    shifted : (g : ℕ) → g ≤ 3120 → (g / 2 - 26) * 2 ^ 52 % 2 ^ 64 ≡ (g / 2 - 26) * 2 ^ 52
    shifted g h = mod-eq_of_lt (omega arith)
