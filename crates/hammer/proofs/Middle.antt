-- The middle of two values lies between them: their sum, rounded, lies between the doubles of the two, and its half
-- between the two. So a turn of halvings, which goes on with one half or the other, may start where the one before it
-- could. Assumes nothing.
use mathlib.Core.Path.{◌≡◌, refl, sym, ap, ◌∙◌, subst}
use Prim.Native.Nat.{ℕ, suc, ◌+◌, ◌*◌, ◌^◌, ◌≤◌, ◌<◌, zero-le}
use native.Mathlib.Nat.{le_trans, le_of_eq, lt_of_le_of_lt, one-mul, add-mul, mul_comm, mul_assoc, mul_left_comm, mul_right_comm}
use native.Mathlib.Nat.{mul-le-mul_right, mul-pos, pow-succ'}
use native.Mathlib.Omega.{arith}
use mathlib.Core.Bool.{true, false, true≢false}
use lib.Dec.{T}
use lib.Pow.{pow_pos}
use lib.Ieee.{Float, nan, inf, fin, binary64, up, down, round, add, mul, fits, of_bits}
use lib.Ieee.Fits.{down_pos, round-fits}
use lib.Ieee.Positive.{num, den, den_pos, value→cross}
use lib.Ieee.Scale.{round_same}
use Rattle.float.specs.Float.{half, zero as +0}
use Rattle.float.specs.Order.{finite_nonneg, nought, zero_is}
use Rattle.float.specs.Sum.{add_is}
use Rattle.float.specs.Units.{Has, Rep, has_finite, rep, has, between}
use Rattle.float.specs.Difference.{zero_fits}
use Rattle.hammer.specs.Contact.{middle}

twice_rep : (a : ℕ) → Rep a → Rep (2 * a)
twice_rep a r = (
  r.0,
  suc r.1,
  r.2,
  ap (λ (y : ℕ). 2 * y) r.3 ∙ mul_left_comm 2 r.0 (2 ^ r.1) ∙ ap (λ (y : ℕ). r.0 * y) (sym (pow-succ' 2 r.1)),
)

-- ---- the sum and the half, in units

sum_is : (x y : Float) (a b : ℕ) → Has x a → Has y b → add binary64 x y ≡ round binary64 false (a + b) (2 ^ 1074)
sum_is x y a b h k =
    let P = 2 ^ 1074 in
    let A = num x * den y in
    let B = num y * den x in
    let C = den x * den y in
    let u : A * P ≡ a * C =
    mul_right_comm (num x) (den y) P ∙ ap (λ (z : ℕ). z * den y) (value→cross x a P h) ∙ mul_assoc a (den x) (den y) in
    let v : B * P ≡ b * C =
    mul_right_comm (num y) (den x) P ∙ ap (λ (z : ℕ). z * den x) (value→cross y b P k) ∙ mul_assoc b (den y) (den x)
    ∙ ap (λ (z : ℕ). b * z) (mul_comm (den y) (den x)) in
    add_is binary64 x y (has_finite x a h) (has_finite y b k)
    ∙ round_same binary64 false (A + B) C (a + b) P (mul-pos (den_pos x) (den_pos y)) (pow_pos 1074)
    (add-mul A B P ∙ ap (λ (z : ℕ). z + B * P) u ∙ ap (λ (z : ℕ). a * C + z) v ∙ sym (add-mul a b C))

twice_pos : (p : ℕ) → 0 < p → 0 < 2 * p
twice_pos p h = omega arith

pub twice_le : (b c : ℕ) → b ≤ c → 2 * b ≤ 2 * c
twice_le b c h = omega arith

half_is : (x : Float) (s : ℕ) → Has x s → mul binary64 half x ≡ round binary64 false s (2 * 2 ^ 1074)
unfolding mul of_bits
half_is nan s h = absurd h
half_is (inf t) s h = absurd h
half_is (fin true m e) s h = absurd (true≢false h.0)
half_is (fin false m e) s h =
    let P = 2 ^ 1074 in
    let a = m * up e in
    round_same binary64 false (1 * a) (2 * down e) s (2 * P) (twice_pos (down e) (down_pos e)) (twice_pos P (pow_pos 1074))
    (ap (λ (y : ℕ). y * (2 * P)) (one-mul a) ∙ mul_left_comm a 2 P ∙ ap (λ (y : ℕ). 2 * y) h.1 ∙ mul_left_comm 2 s (down e))

-- ---- the middle

-- x is a value of the format from a to b, in units
pub record Within (x : Float) (a b : ℕ) : Type 0 where
  pub at : ℕ
  pub has : Has x at
  pub fit : T (fits binary64 x)
  pub least : a ≤ at
  pub most : at ≤ b

-- where halvings may start: two values of the format in their order, and the double of the higher is finite
pub record Start (x y : Float) (a b : ℕ) : Type 0 where
  pub fx : T (fits binary64 x)
  pub fy : T (fits binary64 y)
  pub hx : Has x a
  pub hy : Has y b
  pub order : a ≤ b
  pub top : 2 * b < 2 ^ 2098

pub middle_within : (x y : Float) (a b : ℕ) → Start x y a b → Within (middle x y) a b
unfolding middle
middle_within x y a b start =
    let P = 2 ^ 1074 in
    let l = start.order in
    let r = rep x a start.fx start.hx in
    let q = rep y b start.fy start.hy in
    let s =
    between (2 * a) (2 * b) (a + b) P (pow_pos 1074) (twice_rep a r) (twice_rep b q) start.top
    (mul-le-mul_right P (below a b l)) (mul-le-mul_right P (above a b l)) in
    let n = s.0 in
    let t =
    between a b n (2 * P) (twice_pos P (pow_pos 1074)) r q (less b start.top)
    (le_trans (le_of_eq (turned a P)) (mul-le-mul_right P s.2))
    (le_trans (mul-le-mul_right P s.3) (le_of_eq (sym (turned b P)))) in
    let e : mul binary64 half (add binary64 x y) ≡ round binary64 false n (2 * P) =
    ap (λ (v : Float). mul binary64 half v) (sum_is x y a b start.hx start.hy) ∙ half_is (round binary64 false (a + b) P) n s.1 in
    record {
      at = t.0;
      has = subst (λ (v : Float). Has v t.0) (sym e) t.1;
      fit = subst (λ (v : Float). T (fits binary64 v)) (sym e) (round-fits binary64 false n (2 * P));
      least = t.2;
      most = t.3;
    }
  where
    below : (a b : ℕ) → a ≤ b → 2 * a ≤ a + b
    below a b h = omega arith

    above : (a b : ℕ) → a ≤ b → a + b ≤ 2 * b
    above a b h = omega arith

    turned : (a P : ℕ) → a * (2 * P) ≡ 2 * a * P
    turned a P = mul_left_comm a 2 P ∙ sym (mul_assoc 2 a P)

    less : (b : ℕ) → 2 * b < 2 ^ 2098 → b < 2 ^ 2098
    less b h = le_trans (more b) h
      where
        more : (b : ℕ) → suc b ≤ suc (2 * b)
        more b = omega arith

-- ---- the next turn: from the middle up, or up to the middle

pub upper : (x y : Float) (a b : ℕ) (s : Start x y a b) (w : Within (middle x y) a b) → Start (middle x y) y w.at b
upper x y a b s w = record { fx = w.fit; fy = s.fy; hx = w.has; hy = s.hy; order = w.most; top = s.top }

pub lower : (x y : Float) (a b : ℕ) (s : Start x y a b) (w : Within (middle x y) a b) → Start x (middle x y) a w.at
lower x y a b s w = record {
  fx = s.fx;
  fy = w.fit;
  hx = s.hx;
  hy = w.has;
  order = w.least;
  top = lt_of_le_of_lt (twice_le w.at b w.most) s.top;
}

pub weaker : (x : Float) (a b c d : ℕ) → c ≤ a → b ≤ d → Within x a b → Within x c d
weaker x a b c d h k w = record {
  at = w.at;
  has = w.has;
  fit = w.fit;
  least = le_trans h w.least;
  most = le_trans w.most k;
}

-- ---- the first turn: from 0 to a value whose double is finite

pub from_zero : (y : Float) → T (fits binary64 y) → T (finite_nonneg y) → ((b : ℕ) → Has y b → 2 * b < 2 ^ 2098)
    → (b : ℕ) × Start +0 y 0 b
from_zero nan f p room = absurd p
from_zero (inf s) f p room = absurd p
from_zero (fin true m e) f p room = absurd p
from_zero (fin false m e) f p room =
    let y = fin false m e in
    let h = has m e f in
    let s : Start nought y 0 h.0 =
    record { fx = zero_fits; fy = f; hx = (refl, refl); hy = h.1; order = zero-le; top = room h.0 h.1 } in
    (h.0, subst (λ (z : Float). Start z y 0 h.0) (sym zero_is) s)
