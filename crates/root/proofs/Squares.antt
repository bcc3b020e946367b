-- Whole roots: `whole_root n` is the one r with r * r ≤ n < (r + 1) * (r + 1). Assumes nothing.
use Rattle.std.proofs.Common.{◌≡◌, ℕ, zero, suc, ◌+◌, ◌-◌, ◌*◌, ◌/◌, ◌^◌, ◌<◌, ◌≤◌, Bool, true, false, cond, not, T, leb, sym, refl}
use Rattle.std.proofs.Common.{ap, ◌∙◌, subst, le_trans, le_of_eq, lt_of_lt_of_le, le_of_suc-le-suc, le_of_lt, lt_irrefl}
use Rattle.std.proofs.Common.{zero-lt-suc, mul_assoc, mul_comm, div-lt_iff_lt-mul, add-mul, mul-le-mul, le_antisymm, pow-suc, lt_of_not-le}
use Rattle.std.proofs.Common.{mul-one, mul-add, mul_left_comm, add-one, arith, eqb→eq, leb→le, pow_mono, pow-add}
pub use Rattle.std.proofs.lemmas.Bool.{cases_lt as lt_or_ge}
use Prim.Native.Nat.{compare, Ordering}
use native.Mathlib.Nat.{mul-mul-mul_comm, pow-succ'}
use lib.Dec.{is_le, compare_is_eq, nleb→lt}
use lib.Ieee.{size, nearest}
use lib.Ieee.Digits.{size-lt}
use Rattle.root.specs.Root.{digit, whole, whole_root}
use Rattle.root.specs.Steps.{nearest_root}

pub sq_add : (a b : ℕ) → (a + b) * (a + b) ≡ a * a + 2 * (a * b) + b * b
sq_add a b =
    let p = add-mul a b (a + b) in
    let q = mul-add a a b in
    let r = mul-add b a b in
    let s = mul_comm b a in
    omega arith

pub sq_two : (r : ℕ) → 2 * r * (2 * r) ≡ 4 * (r * r)
sq_two r = mul-mul-mul_comm 2 r 2 r

pub sq_odd : (r : ℕ) → (2 * r + 1) * (2 * r + 1) ≡ 4 * (r * r) + 4 * r + 1
sq_odd r = let p = sq_add (2 * r) 1 in let q = sq_two r in let s = mul-one (2 * r) in omega arith

pub sq_suc : (r : ℕ) → (r + 1) * (r + 1) ≡ r * r + 2 * r + 1
sq_suc r = let p = sq_add r 1 in let s = mul-one r in omega arith

-- r is the whole root of n
abbrev pub Root : ℕ → ℕ → Type 0
Root n r = (r * r ≤ n) × (n < (r + 1) * (r + 1))

digit_root : (n r : ℕ) → Root (n / 4) r → Root n (digit n r)
unfolding digit
digit_root n r h = go (leb ((2 * r + 1) * (2 * r + 1)) n) (leb→le ((2 * r + 1) * (2 * r + 1)) n) (nleb→lt ((2 * r + 1) * (2 * r + 1)) n)
  where
    go : (b : Bool) → (T b → (2 * r + 1) * (2 * r + 1) ≤ n) → (T (not b) → n < (2 * r + 1) * (2 * r + 1)) → Root n (cond b (2 * r + 1) (2 * r))
    go true l g =
        let a = sq_suc r in
        let e = sq_suc (2 * r + 1) in
        let o = sq_odd r in
        let h1 : n / 4 < (r + 1) * (r + 1) = h.1 in
        (l tt, omega arith)
    go false l g =
        let e = sq_suc (2 * r) in
        let t = sq_two r in
        let o = sq_odd r in
        let h0 : r * r ≤ n / 4 = h.0 in
        let k : n < (2 * r + 1) * (2 * r + 1) = g tt in
        (omega arith, omega arith)

quarter : (n d : ℕ) → n < 2 ^ suc d * 2 ^ suc d → n / 4 < 2 ^ d * 2 ^ d
quarter n d h =
    let e : 2 ^ suc d * 2 ^ suc d ≡ 2 ^ d * 2 ^ d * 4 = ap (λ (x : ℕ). x * x) (pow-suc 2 d) ∙ mul-mul-mul_comm (2 ^ d) 2 (2 ^ d) 2 in
    (div-lt_iff_lt-mul (zero-lt-suc 3)).1 (subst (λ (x : ℕ). n < x) e h)

whole_root_lem : (d n : ℕ) → n < 2 ^ d * 2 ^ d → Root n (whole d n)
unfolding whole
whole_root_lem zero n h = (omega arith, h)
whole_root_lem (suc d) n h = digit_root n (whole d (n / 4)) (whole_root_lem d (n / 4) (quarter n d h))

pub is_root : (n : ℕ) → Root n (whole_root n)
unfolding whole_root
is_root n =
    let d = size n / 2 + 1 in
    whole_root_lem d n (lt_of_lt_of_le (size-lt n) (le_trans (pow_mono (enough (size n))) (le_of_eq (pow-add 2 d d))))
  where
    enough : (s : ℕ) → s ≤ s / 2 + 1 + (s / 2 + 1)
    enough s = omega arith

pub root_le : (n a b : ℕ) → a * a ≤ n → n < (b + 1) * (b + 1) → a ≤ b
root_le n a b h k = le_of_suc-le-suc (lt_of_not-le (λ (g : suc b ≤ a).
    let m : b + 1 ≤ a = omega arith in
    let q : (b + 1) * (b + 1) ≤ a * a = mul-le-mul m m in
    lt_irrefl n (lt_of_lt_of_le k (le_trans q h))))

pub root_unique : (n r : ℕ) → Root n r → whole_root n ≡ r
root_unique n r h = le_antisymm (root_le n (whole_root n) r (is_root n).0 h.1) (root_le n r (whole_root n) h.0 (is_root n).1)

-- ---- what `compare` says
clash : (a b : ℕ) → a < b → b ≤ a → ⊥
clash a b h k = omega arith

differ : (a b : ℕ) → a < b → a ≡ b → ⊥
differ a b h k = omega arith

pub compare_lt : (a b : ℕ) → a < b → compare a b ≡ Ordering.lt
compare_lt a b h = go (compare a b) (nleb→lt a b) (eqb→eq a b)
  where
    go : (o : Ordering) → (T (not (is_le o)) → b < a) → (T (compare_is_eq o) → a ≡ b) → o ≡ Ordering.lt
    go Ordering.lt g e = refl
    go Ordering.eq g e = absurd (differ a b h (e tt))
    go Ordering.gt g e = absurd (clash a b h (le_of_lt (g tt)))

pub compare_gt : (a b : ℕ) → b < a → compare a b ≡ Ordering.gt
compare_gt a b h = go (compare a b) (leb→le a b)
  where
    go : (o : Ordering) → (T (is_le o) → a ≤ b) → o ≡ Ordering.gt
    go Ordering.lt g = absurd (clash b a h (g tt))
    go Ordering.eq g = absurd (clash b a h (g tt))
    go Ordering.gt g = refl

-- by the remainder: up where n is above q * q + q. A tie cannot be, since (2 * q + 1) squared is odd and 4 * n is not.
pub round_down : (n q : ℕ) → Root n q → n ≤ q * q + q → q ≡ nearest_root n
unfolding nearest_root
round_down n q h l =
    let o = sq_odd q in
    sym (ap (λ (w : ℕ). nearest w (compare (4 * n) ((2 * w + 1) * (2 * w + 1)))) (root_unique n q h)
    ∙ ap (λ (x : Ordering). nearest q x) (compare_lt (4 * n) ((2 * q + 1) * (2 * q + 1)) (omega arith)))

pub round_up : (n q : ℕ) → Root n q → q * q + q < n → q + 1 ≡ nearest_root n
unfolding nearest_root
round_up n q h l =
    let o = sq_odd q in
    sym (ap (λ (w : ℕ). nearest w (compare (4 * n) ((2 * w + 1) * (2 * w + 1)))) (root_unique n q h)
    ∙ ap (λ (x : Ordering). nearest q x) (compare_gt (4 * n) ((2 * q + 1) * (2 * q + 1)) (omega arith))
    ∙ sym (add-one q))

-- ---- one digit: b is the next digit's weight, d twice that
pub kept_digit : (n q y d b : ℕ) → d ≡ 2 * b → y * d + 2 * (q * q) ≡ n → y * 2 * b + 2 * (q * q) ≡ n
kept_digit n q y d b e h = ap (λ (x : ℕ). x + 2 * (q * q)) (mul_assoc y 2 b ∙ ap (λ (x : ℕ). y * x) (sym e)) ∙ h

pub new_digit : (n q y d b z : ℕ) → d ≡ 2 * b → y ≡ z + (2 * q + b) → y * d + 2 * (q * q) ≡ n → z * 2 * b + 2 * ((q + b) * (q + b)) ≡ n
new_digit n q y d b z e f h =
    let a : y * d ≡ 2 * (y * b) = ap (λ (x : ℕ). y * x) e ∙ mul_left_comm y 2 b in
    let g : y * b ≡ (z + (2 * q + b)) * b = ap (λ (x : ℕ). x * b) f in
    let i = add-mul z (2 * q + b) b in
    let j = add-mul (2 * q) b b in
    let k = mul_assoc 2 q b in
    let l = sq_add q b in
    let m : z * 2 * b ≡ 2 * (z * b) = mul_assoc z 2 b ∙ mul_left_comm z 2 b in
    omega arith

-- ---- the digits' weights
pub half_pow : (i : ℕ) → i < 53 → 2 ^ (53 - i) ≡ 2 * 2 ^ (53 - (i + 1))
half_pow i h = ap (λ (x : ℕ). 2 ^ x) (count i h) ∙ pow-succ' 2 (53 - (i + 1))
  where
    count : (i : ℕ) → i < 53 → 53 - i ≡ suc (53 - (i + 1))
    count i h = omega arith

-- what holds before turn i, n being twice the number
abbrev pub Turn : ℕ → ℕ → ℕ → ℕ → ℕ → Type 0
Turn n q y d i = (i ≤ 53) × (d ≡ 2 ^ (53 - i)) × (q + d ≤ 2 ^ 53) × (y < 4 * q + 2 * d) × (y * d + 2 * (q * q) ≡ n)

pub turn_kept : (n q y d i : ℕ) → Turn n q y d i → i < 53 → y < 2 * q + d / 2 → Turn n q (y * 2) (d / 2) (i + 1)
turn_kept n q y d i v l t =
    let p = half_pow i l in
    let e : d ≡ 2 * (d / 2) = omega (arith, v.1) in
    (omega arith, omega (arith, v.1), omega (arith, v.2), omega arith, kept_digit n q y d (d / 2) e v.4)

pub turn_new : (n q y d i : ℕ) → Turn n q y d i → i < 53 → 2 * q + d / 2 ≤ y → Turn n (q + d / 2) ((y - (2 * q + d / 2)) * 2) (d / 2) (i + 1)
turn_new n q y d i v l t =
    let p = half_pow i l in
    let e : d ≡ 2 * (d / 2) = omega (arith, v.1) in
    (omega arith, omega (arith, v.1), omega (arith, v.2), omega (arith, v.3), new_digit n q y d (d / 2) (y - (2 * q + d / 2)) e (omega arith) v.4)

-- after the last turn
pub last_root : (m q y d i : ℕ) → Turn (2 * m) q y d i → 53 ≤ i → Root m q × (y + 2 * (q * q) ≡ 2 * m)
last_root m q y d i v l =
    let z : i ≡ 53 = omega (arith, v.0) in
    let e : d ≡ 1 = v.1 ∙ ap (λ (x : ℕ). 2 ^ (53 - x)) z in
    let f : y + 2 * (q * q) ≡ 2 * m = ap (λ (x : ℕ). x + 2 * (q * q)) (sym (mul-one y) ∙ ap (λ (x : ℕ). y * x) (sym e)) ∙ v.4 in
    let s = sq_suc q in
    let b : y < 4 * q + 2 * d = v.3 in
    ((omega arith, omega arith), f)
