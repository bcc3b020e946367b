-- For c0 and c1 above 0 and c0 / c1 at most half the largest value, the felt's force lies from 0 to the rounded c0 /
-- c1: each middle lies between the two ends that it halves, and so does what the halvings end in. Nothing is asked of
-- the test, so nothing of stiffness, exponent and memory. Assumes nothing.
use mathlib.Core.Path.{◌≡◌, refl, sym, subst}
use Prim.Native.Nat.{ℕ, zero, suc, ◌-◌, ◌*◌, ◌^◌, ◌<◌, zero-le}
use native.Mathlib.Nat.{le_of_eq, lt_of_le_of_lt}
use mathlib.Core.Logic.{◌⊎◌, inl, inr}
use mathlib.Core.Bool.{Bool, true, false, cond}
use lib.IntN.{pos}
use lib.Dec.{T, lit<}
use lib.Ieee.{Float, nan, inf, fin, binary64, div, le, of_bits}
use lib.Ieee.Bits.{is_true}
use lib.Ieee.Fits.{div-fits}
use lib.Ieee.Positive.{positive}
use Rattle.float.specs.Float.{positive_part, zero as +0}
use Rattle.float.specs.Order.{nonneg, finite_nonneg, nought, zero_is, finite_nonneg_lem, positive_finite, cross_le, zero_nonneg, zero_least}
use Rattle.float.specs.Order.{not_inf_le, order_trans, finite_below}
use Rattle.float.specs.Order.{sign_set_low, low_or_positive, div_nonneg, div_mono}
use Rattle.float.specs.Difference.{part_nonneg, under_part}
use Rattle.float.specs.Units.{Has, has_finite, in_order, ordered}
use Rattle.hammer.specs.declared.Hammer.{Hammer}
use Rattle.hammer.specs.Contact.{felt_force, middle, bisect, force_of, half_max, ForceBound}
use Rattle.hammer.specs.Guess.{too_low}
use Rattle.hammer.proofs.Halvings.{no_approach}
use Rattle.hammer.proofs.Middle.{Within, Start, twice_le, middle_within, upper, lower, weaker, from_zero}

-- what halvings end in lies between the ends that they start from, for any test
bisect_within : (t : Float → Bool) (n : ℕ) (x y : Float) (a b : ℕ) → Start x y a b → Within (bisect t n x y) a b
unfolding bisect
bisect_within t zero x y a b s = middle_within x y a b s
bisect_within t (suc n) x y a b s = go (t (middle x y)) (middle_within x y a b s) (bisect_within t n)
  where
    go : (p : Bool) → Within (middle x y) a b → ((x y : Float) (a b : ℕ) → Start x y a b → Within (bisect t n x y) a b)
        → Within (bisect t n (cond p (middle x y) x) (cond p y (middle x y))) a b
    go true w ih =
        weaker (bisect t n (middle x y) y) w.at b a b w.least (le_of_eq refl) (ih (middle x y) y w.at b (upper x y a b s w))
    go false w ih =
        weaker (bisect t n x (middle x y)) a w.at a b (le_of_eq refl) w.most (ih x (middle x y) a w.at (lower x y a b s w))

-- ---- twice a value at most half_max is finite

-- half_max and its units
abbrev largest_half : Float
largest_half = fin false (2 ^ 53 - 1) (pos 970)

abbrev largest_units : ℕ
largest_units = (2 ^ 53 - 1) * 2 ^ 970 * 2 ^ 1074

half_max_is : half_max ≡ largest_half
unfolding of_bits
half_max_is = refl

doubled : (y : Float) → T (le y largest_half) → (b : ℕ) → Has y b → 2 * b < 2 ^ 2098
doubled y l b h = lt_of_le_of_lt (twice_le b largest_units (in_order y largest_half b largest_units h (refl, refl) l)) (lit< tt)

-- ---- the force

-- from 0 to top, the sign clear
abbrev UpTo : Float → Float → Type 0
UpTo f top = T (finite_nonneg f) × T (le f top)

at_most : (x : Float) → T (le x half_max) → T (le x largest_half)
at_most x l = subst (λ (z : Float). T (le x z)) half_max_is l

-- where the rounded c0 / c1 is at most half_max, c0 is at most 0, or finite and above 0
divided : (c0 c1 : Float) → T (positive c1) → T (le (div binary64 c0 c1) largest_half) → T (le c0 nought) ⊎ T (positive c0)
divided nan c1 q l = absurd (unfold div le in l)
divided (inf true) c1 q l = inl (sign_set_low (inf true) tt)
divided (inf false) nan q l = absurd q
divided (inf false) (inf s) q l = absurd q
divided (inf false) (fin true n d) q l = absurd q
divided (inf false) (fin false n d) q l = absurd (not_inf_le largest_half tt (unfold div in l))
divided (fin true m e) c1 q l = inl (sign_set_low (fin true m e) tt)
divided (fin false m e) c1 q l = let x = fin false m e in low_or_positive x x tt (cross_le x x tt tt (le_of_eq refl))

module _ (hammer : Hammer) (eps_r c0 c1 : Float) where
  abbrev top : Float
  top = div binary64 c0 c1

  abbrev force : Float
  force = force_of hammer eps_r c0 c1

  -- it is 0 where c0 is at most 0
  no_force_lem : T (le c0 nought) → force ≡ +0
  no_force_lem l = sym (no_approach hammer eps_r c0 c1 (is_true (le c0 +0) (subst (λ (z : Float). T (le c0 z)) (sym zero_is) l)))

  -- its sign is clear, and it is at most top
  within : T (positive c0) → T (positive c1) → T (le top largest_half) → UpTo force top
  unfolding force_of
  within p q l = go (le c0 +0) (le (felt_force hammer eps_r c0) +0)
    where
      s : (b : ℕ) × Start +0 top 0 b
      s = from_zero top (div-fits binary64 c0 c1) (finite_below top largest_half (div_nonneg binary64 c0 c1 p q) tt l) (doubled top l)

      up_to : (f : Float) → Within f 0 s.0 → UpTo f top
      up_to f w = (has_finite f w.at w.has, ordered f top w.at s.0 w.has s.1.hy w.most)

      none : UpTo +0 top
      none = up_to +0 (record { at = 0; has = s.1.hx; fit = s.1.fx; least = zero-le; most = zero-le })

      go : (a b : Bool) → UpTo (cond a +0 (cond b +0 (bisect (too_low hammer eps_r c0 c1) 50 +0 top))) top
      go true b = none
      go false true = none
      go false false = up_to _ (bisect_within (too_low hammer eps_r c0 c1) 50 +0 top 0 s.0 s.1)

  -- THE LAW of the bound
  pub force_bound : ForceBound c0 c1 force
  force_bound p q l = let w = within p q (at_most top l) in (zero_least force (finite_nonneg_lem force w.0), w.1)

  -- THE LAW for a limiter: no contact of a c0 up to c pushes with more than the rounded c / c1
  pub force_under : (c : Float) → T (positive c) → T (positive c1) → T (le (div binary64 c c1) half_max) → T (le c0 c)
      → T (le +0 force) × T (le force (div binary64 c c1))
  force_under c p q l h =
      let t = div binary64 c c1 in
      let nt = div_nonneg binary64 c c1 p q in
      elim (low_or_positive c0 c (positive_finite c p) h) [
        | inl z ↦ subst (λ (f : Float). T (le +0 f) × T (le f t)) (sym (no_force_lem z)) (zero_least +0 zero_nonneg, zero_least t nt)
        | inr p0 ↦
            let d = div_mono binary64 c0 c c1 p0 p q h in
            let nd = div_nonneg binary64 c0 c1 p0 q in
            let w = within p0 q (order_trans top t largest_half nd nt tt d (at_most t l)) in
            (zero_least force (finite_nonneg_lem force w.0), order_trans force top t (finite_nonneg_lem force w.0) nd nt w.1 d)
      ]

  -- the same, and c0 may be at most 0: from 0 to the positive part of top. A NaN c0 is excluded: its top is NaN, which is
  -- not at most half_max
  pub force_part : T (positive c1) → T (le top half_max) → T (nonneg force) × T (le force (positive_part top))
  force_part q l = elim (divided c0 c1 q (at_most top l)) [
    | inl z ↦
        subst (λ (f : Float). T (nonneg f) × T (le f (positive_part top))) (sym (no_force_lem z))
        (zero_nonneg, zero_least (positive_part top) (part_nonneg top))
    | inr p ↦
        let w = within p q (at_most top l) in
        let n = finite_nonneg_lem force w.0 in
        let s = finite_below top largest_half (div_nonneg binary64 c0 c1 p q) tt (at_most top l) in
        (n, under_part force top n s w.1)
  ]
