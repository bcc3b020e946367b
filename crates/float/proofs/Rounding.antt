-- `round_away` by cases, as the code tests them. Assumes nothing.
use Rattle.std.proofs.Common.{◌≡◌, ℕ, zero, suc, ◌+◌, ◌-◌, ◌*◌, ◌/◌, ◌^◌, ◌<◌, ◌≤◌, min, Bool, true, false, not, T, ltb, ℤ, pos, negsuc}
use Rattle.std.proofs.Common.{sym, refl, ap, ◌∙◌, subst, true≢false, le_trans, le_of_eq, lt_of_lt_of_le, le_of_suc-le-suc, lt_of_le_of_lt}
use Rattle.std.proofs.Common.{mul-le-mul_right, mul_assoc, mul_comm, div-lt_iff_lt-mul, lt_of_mul-lt-mul_right, mul-le-mul_left}
use Rattle.std.proofs.Common.{mul-lt-mul_of_pos_right, one-mul, le-div_iff_mul-le, zero-mul, mul-one, mul_right_comm, div-one}
use Rattle.std.proofs.Common.{mul_left_comm, arith, lit≤, ltb→lt, lt→ltb, nltb→le, pow_pos}
use native.Mathlib.Nat.{add-mul-div_right}
use native.Mathlib.Nat.{div-div-eq-div-mul, pow-succ'}
use mathlib.Core.Bool.{false≢true}
use lib.Arith.{le-zero}
use lib.Ieee.{Float, nan, inf, fin, binary64, up, down, mul, lt, fits, to_unsigned}
use lib.Ieee.Fits.{down_pos}
use lib.Ieee.Exact.{HasValue, round_exact}
use lib.Ieee.Nearest.{div_same}
use Rattle.float.specs.Float.{round_away}
use Rattle.float.specs.Order.{nought, under_power}
use Rattle.float.specs.Units.{digits, place}

abbrev pub Two : Float
Two = fin false 1 (pos 1)

yes : (b : Bool) → b ≡ true → T b
yes b e = subst T (sym e) tt

no : (b : Bool) → b ≡ false → T (not b)
no b e = subst (λ (c : Bool). T (not c)) (sym e) tt

-- ---- what a test says of a value above 0
abbrev pub Plain : Float → Type 0
Plain x = (m : ℕ) × (e : ℤ) × (x ≡ fin false (suc m) e)

none : (a b : ℕ) → a < b → b ≡ 0 → ⊥
none a b h e = omega arith

pub plain : (x : Float) (k : ℕ) → lt nought x ≡ true → lt x (fin false 1 (pos k)) ≡ true → Plain x
unfolding lt
plain nan k h l = absurd (false≢true h)
plain (inf true) k h l = absurd (false≢true h)
plain (inf false) k h l = absurd (false≢true l)
plain (fin true m e) k h l = absurd (false≢true h)
plain (fin false zero e) k h l = absurd (none (0 * down e) (0 * up e * 1) (ltb→lt (0 * down e) (0 * up e * 1) (yes (ltb (0 * down e) (0 * up e * 1)) h)) (ap (λ (y : ℕ). y * 1) (zero-mul (up e))))
plain (fin false (suc m) e) k h l = (m, e, refl)

above_is : (a b d : ℕ) → 1 * b * d ≤ a * 1 → b * d ≤ a
above_is a b d h = subst (λ (y : ℕ). b * d ≤ y) (mul-one a) (subst (λ (y : ℕ). y * d ≤ a * 1) (one-mul b) h)

over : (m : ℕ) (e : ℤ) (k : ℕ) → lt (fin false m e) (fin false 1 (pos k)) ≡ false → 2 ^ k * down e ≤ m * up e
unfolding lt
over m e k h = above_is (m * up e) (2 ^ k) (down e) (nltb→le (m * up e * 1) (1 * 2 ^ k * down e) (no (ltb (m * up e * 1) (1 * 2 ^ k * down e)) h))

-- ---- twice a value that fits
twice_place : (e : ℤ) → down e ≤ 2 ^ 1074 → (j : ℕ) × (2 * up e * 2 ^ 1074 ≡ 2 ^ j * down e)
twice_place e h =
    let p = place e h in
    let j = p.0 in
    (suc j, mul_assoc 2 (up e) (2 ^ 1074) ∙ ap (λ (y : ℕ). 2 * y) p.1 ∙ sym (mul_assoc 2 (2 ^ j) (down e)) ∙ ap (λ (y : ℕ). y * down e) (sym (pow-succ' 2 j)))

doubled : (m : ℕ) (e : ℤ) → T (fits binary64 (fin false (suc m) e)) → suc m * up e < 2 ^ 62 * down e
    → HasValue (mul binary64 Two (fin false (suc m) e)) false (2 * (suc m * up e)) (1 * down e)
unfolding mul
doubled m e f l =
    let n = suc m in
    let d = digits false m e f in
    let p = twice_place e d.1 in
    let j = p.0 in
    let D = 1 * down e in
    let eq : 2 * (n * up e) * 2 ^ 1074 ≡ n * 2 ^ j * D =
    ap (λ (y : ℕ). y * 2 ^ 1074) (mul_left_comm 2 n (up e)) ∙ mul_assoc n (2 * up e) (2 ^ 1074)
    ∙ ap (λ (y : ℕ). n * y) p.1 ∙ sym (mul_assoc n (2 ^ j) (down e)) ∙ ap (λ (y : ℕ). n * 2 ^ j * y) (sym (one-mul (down e))) in
    let pd : 0 < D = subst (λ (y : ℕ). 0 < y) (sym (one-mul (down e))) (down_pos e) in
    let small : n * 2 ^ j < 2 ^ 2098 =
    lt_of_mul-lt-mul_right D (lt_of_le_of_lt (le_of_eq (sym eq)) (room (n * up e) (down e) D l (one-mul (down e)))) in
    round_exact binary64 false (2 * (n * up e)) D n j pd d.0 small eq
  where
    room : (a d D : ℕ) → a < 2 ^ 62 * d → D ≡ d → 2 * a * 2 ^ 1074 < 2 ^ 2098 * D
    room a d D h e =
        let k : 2 * a < 2 ^ 63 * d = omega arith in
        lt_of_lt_of_le (mul-lt-mul_of_pos_right k (pow_pos 1074))
        (le_trans (le_of_eq (mul_right_comm (2 ^ 63) d (2 ^ 1074)))
        (le_trans (mul-le-mul_right d (lit≤ tt)) (le_of_eq (ap (λ (y : ℕ). 2 ^ 2098 * y) (sym e)))))

-- ---- the whole part of a value a / c
whole_part : (y : Float) (a c : ℕ) → 0 < c → HasValue y false a c → to_unsigned 64 y ≡ min (a / c) (2 ^ 64 - 1)
unfolding to_unsigned
whole_part nan a c p h = absurd h
whole_part (inf s) a c p h = absurd h
whole_part (fin true m e) a c p h = absurd (true≢false h.0)
whole_part (fin false m e) a c p h = ap (λ (n : ℕ). min n (2 ^ 64 - 1)) (div_same (m * up e) (down e) a c (down_pos e) p h.1)

in_range : (y : Float) (a c : ℕ) → 0 < c → a < 2 ^ 64 * c → HasValue y false a c → T (lt (fin true 1 (pos 0)) y) × T (lt y (fin false 1 (pos 64)))
unfolding lt
in_range nan a c p l h = absurd h
in_range (inf s) a c p l h = absurd h
in_range (fin true m e) a c p l h = absurd (true≢false h.0)
in_range (fin false m e) a c p l h =
    let k : m * up e < 2 ^ 64 * down e =
    lt_of_mul-lt-mul_right c (lt_of_le_of_lt (le_of_eq h.1) (lt_of_lt_of_le (mul-lt-mul_of_pos_right l (down_pos e)) (le_of_eq (mul_right_comm (2 ^ 64) c (down e))))) in (
      lt→ltb 0 (1 * down e + m * up e * 1) (some (1 * down e) (m * up e * 1) (subst (λ (y : ℕ). 0 < y) (sym (one-mul (down e))) (down_pos e))),
      lt→ltb (m * up e * 1) (2 ^ 64 * down e) (subst (λ (y : ℕ). y < 2 ^ 64 * down e) (sym (mul-one (m * up e))) k),
    )
  where
    some : (a b : ℕ) → 0 < a → 0 < a + b
    some a b h = omega arith

-- ---- half of (the whole part of 2 * a / d, plus one)
half_up : (a d D : ℕ) → 0 < d → D ≡ d → (2 * a / D + 1) / 2 ≡ (2 * a + d) / (2 * d)
half_up a d D p e =
    ap (λ (y : ℕ). (2 * a / y + 1) / 2) e
    ∙ ap (λ (y : ℕ). y / 2) (sym (add-mul-div_right (2 * a) 1 p))
    ∙ div-div-eq-div-mul (2 * a + 1 * d) d 2
    ∙ ap (λ (y : ℕ). (2 * a + y) / (d * 2)) (one-mul d)
    ∙ ap (λ (y : ℕ). (2 * a + d) / y) (mul_comm d 2)

-- ---- the four ways out
pub record Doubled (x : Float) : Type 0 where
  pub asks : T (lt (fin true 1 (pos 0)) (mul binary64 Two x)) × T (lt (mul binary64 Two x) (fin false 1 (pos 64)))
  pub small : to_unsigned 64 (mul binary64 Two x) < 2 ^ 63
  pub is : (to_unsigned 64 (mul binary64 Two x) + 1) / 2 ≡ round_away x

by_doubling : (m : ℕ) (e : ℤ) → T (fits binary64 (fin false (suc m) e)) → suc m * up e < 2 ^ 62 * down e → Doubled (fin false (suc m) e)
unfolding round_away
by_doubling m e f l =
    let a = suc m * up e in
    let d = down e in
    let D = 1 * d in
    let z : D ≡ d = one-mul d in
    let P : 0 < D = subst (λ (y : ℕ). 0 < y) (sym z) (down_pos e) in
    let y = mul binary64 Two (fin false (suc m) e) in
    let v : HasValue y false (2 * a) D = doubled m e f l in
    let q : 2 * a / D < 2 ^ 63 = (div-lt_iff_lt-mul P).1 (less a d D l z) in
    let u : to_unsigned 64 y ≡ 2 * a / D = whole_part y (2 * a) D P v ∙ uncapped (2 * a / D) q in
    let r : (2 * a + d) / (2 * d) < 2 ^ 63 = subst (λ (n : ℕ). n < 2 ^ 63) (half_up a d D (down_pos e) z) (halved (2 * a / D) q) in
    record {
      asks = in_range y (2 * a) D P (more a d D l z) v;
      small = rw u q;
      is = ap (λ (n : ℕ). (n + 1) / 2) u ∙ half_up a d D (down_pos e) z ∙ sym (uncapped ((2 * a + d) / (2 * d)) r);
    }
  where
    less : (a d D : ℕ) → a < 2 ^ 62 * d → D ≡ d → 2 * a < 2 ^ 63 * D
    less a d D h e = omega arith

    more : (a d D : ℕ) → a < 2 ^ 62 * d → D ≡ d → 2 * a < 2 ^ 64 * D
    more a d D h e = omega arith

    uncapped : (n : ℕ) → n < 2 ^ 63 → min n (2 ^ 64 - 1) ≡ n
    uncapped n h = omega arith

    halved : (n : ℕ) → n < 2 ^ 63 → (n + 1) / 2 < 2 ^ 63
    halved n h = omega arith

pub doubling : (x : Float) → T (fits binary64 x) → lt nought x ≡ true → lt x (fin false 1 (pos 62)) ≡ true → Doubled x
doubling x f h l =
    let p = plain x 62 h l in
    let e = p.2 in
    subst Doubled (sym e)
    (by_doubling p.0 p.1 (subst (λ (v : Float). T (fits binary64 v)) e f)
    (under_power (suc p.0) p.1 62 (ap (λ (v : Float). lt v (fin false 1 (pos 62))) (sym e) ∙ l)))

-- from 2 ^ 62 on a value is a whole number
by_whole : (m : ℕ) (e : ℤ) → T (fits binary64 (fin false (suc m) e)) → 2 ^ 62 * down e ≤ suc m * up e
    → to_unsigned 64 (fin false (suc m) e) ≡ round_away (fin false (suc m) e)
unfolding to_unsigned round_away
by_whole m (pos k) f l = ap (λ (n : ℕ). min n (2 ^ 64 - 1)) (div-one (suc m * 2 ^ k) ∙ sym (half_odd (suc m * 2 ^ k)))
  where
    half_odd : (n : ℕ) → (2 * n + 1) / 2 ≡ n
    half_odd n = omega arith
by_whole m (negsuc a) f l =
    absurd
    (few (suc m) (2 ^ 62 * 2 ^ suc a) (digits false m (negsuc a) f).0 (le_trans l (le_of_eq (mul-one (suc m))))
    (le_trans (le_of_eq (sym (mul-one (2 ^ 62)))) (mul-le-mul_left (2 ^ 62) (pow_pos (suc a)))))
  where
    few : (n p : ℕ) → n < 2 ^ 53 → p ≤ n → 2 ^ 62 ≤ p → ⊥
    few n p a b c = omega arith

pub wholly : (x : Float) → T (fits binary64 x) → lt nought x ≡ true → lt x (fin false 1 (pos 62)) ≡ false → lt x (fin false 1 (pos 64)) ≡ true
    → to_unsigned 64 x ≡ round_away x
wholly x f h n l =
    let p = plain x 64 h l in
    let e = p.2 in
    subst (λ (v : Float). to_unsigned 64 v ≡ round_away v) (sym e)
    (by_whole p.0 p.1 (subst (λ (v : Float). T (fits binary64 v)) e f) (over (suc p.0) p.1 62 (ap (λ (v : Float). lt v (fin false 1 (pos 62))) (sym e) ∙ n)))

pub wholly_asks : (x : Float) → lt nought x ≡ true → lt x (fin false 1 (pos 64)) ≡ true → T (lt (fin true 1 (pos 0)) x) × T (lt x (fin false 1 (pos 64)))
wholly_asks x h l =
    let p = plain x 64 h l in
    let e = p.2 in
    let a = suc p.0 * up p.1 in
    in_range x a (down p.1) (down_pos p.1)
    (under_power (suc p.0) p.1 64 (ap (λ (v : Float). lt v (fin false 1 (pos 64))) (sym e) ∙ l))
    (subst (λ (v : Float). HasValue v false a (down p.1)) (sym e) (refl, refl))

pub beyond : (x : Float) → lt nought x ≡ true → lt x (fin false 1 (pos 64)) ≡ false → 2 ^ 64 - 1 ≡ round_away x
unfolding lt round_away
beyond nan h l = absurd (false≢true h)
beyond (inf true) h l = absurd (false≢true h)
beyond (inf false) h l = refl
beyond (fin true m e) h l = absurd (false≢true h)
beyond (fin false m e) h l = sym (capped ((2 * (m * up e) + down e) / (2 * down e)) ((le-div_iff_mul-le (twice (down e) (down_pos e))).1 (grown (m * up e) (down e) (over m e 64 l))))
  where
    capped : (n : ℕ) → 2 ^ 64 ≤ n → min n (2 ^ 64 - 1) ≡ 2 ^ 64 - 1
    capped n h = omega arith

    twice : (d : ℕ) → 0 < d → 0 < 2 * d
    twice d h = omega arith

    grown : (a d : ℕ) → 2 ^ 64 * d ≤ a → 2 ^ 64 * (2 * d) ≤ 2 * a + d
    grown a d h = omega arith

pub nothing : (x : Float) → lt nought x ≡ false → 0 ≡ round_away x
unfolding lt round_away
nothing nan h = refl
nothing (inf true) h = refl
nothing (inf false) h = absurd (true≢false h)
nothing (fin true m e) h = refl
nothing (fin false m e) h =
    let z : m * up e ≡ 0 = none_left (m * up e) (0 * down e) (nltb→le (0 * down e) (m * up e * 1) (no (ltb (0 * down e) (m * up e * 1)) h)) (zero-mul (down e)) in
    sym (ap (λ (a : ℕ). min ((2 * a + down e) / (2 * down e)) (2 ^ 64 - 1)) z ∙ ap (λ (n : ℕ). min n (2 ^ 64 - 1)) (half_none (down e) (down_pos e)))
  where
    none_left : (a b : ℕ) → a * 1 ≤ b → b ≡ 0 → a ≡ 0
    none_left a b h e = omega arith

    half_none : (d : ℕ) → 0 < d → (2 * 0 + d) / (2 * d) ≡ 0
    half_none d h = le-zero (le_of_suc-le-suc ((div-lt_iff_lt-mul (more d h)).1 (less d h)))
      where
        more : (d : ℕ) → 0 < d → 0 < 2 * d
        more d h = omega arith

        less : (d : ℕ) → 0 < d → 2 * 0 + d < 1 * (2 * d)
        less d h = omega arith
