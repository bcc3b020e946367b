-- The root grows with its operand, at the numbers above zero, and is such a number: a root that fell would have both
-- operands on the wrong side of the middle of the two roots, which `root_correct` says by squares. Assumes nothing.
use Rattle.std.proofs.Common.{◌≡◌, ℕ, ◌+◌, ◌*◌, ◌^◌, ◌<◌, ◌≤◌, false, T, negsuc, sym, refl, ap, subst, inl, inr, mul-le-mul_right}
use Rattle.std.proofs.Common.{eq-zero-or-pos, mul-pos, arith, pow_pos}
use lib.Ieee.{Float, fin, binary64, le, fits}
use lib.Ieee.Positive.{positive}
use Rattle.float.specs.Units.{above_has, has_above, in_order, ordered}
use Rattle.root.specs.Root.{root_of}
use Rattle.root.specs.Law.{Number}
use Rattle.root.proofs.Squares.{lt_or_ge}
use Rattle.root.proofs.Correct.{root_correct}

-- no middle of R and S has its square both above 4 Y and below 4 X where X is at most Y
no_middle : (R S X Y : ℕ) → 4 * Y < (S + R) * (S + R) → (R + S) * (R + S) < 4 * X → X ≤ Y → ⊥
no_middle R S X Y h k l = no ((S + R) * (S + R)) ((R + S) * (R + S)) X Y (ap (λ (n : ℕ). n * n) (turn S R)) h k l
  where
    turn : (a b : ℕ) → a + b ≡ b + a
    turn a b = omega arith

    no : (a b x y : ℕ) → a ≡ b → 4 * y < a → b < 4 * x → x ≤ y → ⊥
    no a b x y e h k l = omega arith

pub root_mono : (x y : Float) → T (fits binary64 x) → T (fits binary64 y) → T (positive x) → T (positive y)
    → T (le x y) → T (le (root_of x) (root_of y))
root_mono x y f g p q h =
    let P = 2 ^ 1074 in
    let c = root_correct x f p in
    let d = root_correct y g q in
    let l : c.X * P ≤ d.X * P = mul-le-mul_right P (in_order x y c.X d.X c.operand.1 d.operand.1 h) in
    ordered (root_of x) (root_of y) c.R d.R c.result.1 d.result.1
    (elim (lt_or_ge d.R c.R) [
      | inl r ↦
          let a = d.above (root_of x) c.R c.result r in
          let b = c.below (root_of y) d.R d.result r in
          absurd (no_middle c.R d.R (c.X * P) (d.X * P) a b l)
      | inr r ↦ r
    ])

-- ---- the root is a number of the format above 0, so that it has a root again

pub root_fits : (x : Float) → T (fits binary64 x) → T (positive x) → T (fits binary64 (root_of x))
root_fits x f p = (root_correct x f p).result.0

-- the smallest number above 0
smallest : Number (fin false 1 (negsuc 1073)) 1
unfolding fits
smallest = (tt, (refl, refl))

-- were the root 0, the operand would be below the square of half the smallest number
pub root_positive : (x : Float) → T (fits binary64 x) → T (positive x) → T (positive (root_of x))
root_positive x f p =
    let c = root_correct x f p in
    let some : 0 < c.X * 2 ^ 1074 = mul-pos (above_has x c.X p c.operand.1) (pow_pos 1074) in
    has_above (root_of x) c.R c.result.1
    (elim (eq-zero-or-pos c.R) [
      | inl z ↦
          let h = c.above (fin false 1 (negsuc 1073)) 1 smallest (subst (λ (n : ℕ). n < 1) (sym z) (pow_pos 0)) in
          absurd (none (c.X * 2 ^ 1074) some (subst (λ (n : ℕ). 4 * (c.X * 2 ^ 1074) < (n + 1) * (n + 1)) z h))
      | inr g ↦ g
    ])
  where
    none : (n : ℕ) → 0 < n → 4 * n < (0 + 1) * (0 + 1) → ⊥
    none n g h = omega arith
