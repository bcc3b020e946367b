-- The felt's test is one of a threshold: a force that is too low stays too low further down. Less force leaves more
-- compression, its power is no smaller, and so the felt's force is no smaller: each rounded operation keeps order. It
-- holds for moderate numbers. Assumes nothing.
use mathlib.Core.Path.{◌≡◌, refl, sym, ap, ◌∙◌, subst}
use mathlib.Core.Logic.{◌⊎◌, inl, inr}
use mathlib.Core.Bool.{true, false≢true}
use lib.Dec.{T}
use lib.Ieee.{Float, binary64, mul, sub, lt, le, eq, fits}
use lib.Ieee.Fits.{mul-fits}
use lib.Ieee.Positive.{positive}
use Rattle.float.specs.Float.{positive_part, zero as +0}
use Rattle.float.specs.Order.{nonneg, finite_nonneg, nought, zero_is, finite_nonneg_lem, positive_finite, lt_between, less_finite}
use Rattle.float.specs.Order.{above_nonneg, above_positive}
use Rattle.float.specs.Order.{mul_nonneg_right, mul_mono_right, mul_sign_set}
use Rattle.float.specs.Difference.{SameOff, zero_off, sub_cases, sub_sign_set, then_less, if_less, sub_mono, left_fits, left_finite, left_anti}
use Rattle.power.specs.Power.{power_of}
use Rattle.power.specs.Monotone.{power_nonneg, power_mono}
use Rattle.hammer.specs.declared.Hammer.{Hammer}
use Rattle.hammer.specs.Contact.{felt_force, excess}
use Rattle.hammer.specs.Guess.{too_low, limit, Moderate, AllModerate}

-- the force k (q - e) grows with q, so where the difference from n is below 0 it stays so for an m below n and a q above r
push_mono : (k e m n q r : Float) → T (positive k) → T (finite_nonneg e) → T (fits binary64 m) → T (finite_nonneg m) → T (finite_nonneg n)
    → T (nonneg q) → T (nonneg r) → T (le m n) → T (le r q)
    → lt (sub binary64 n (mul binary64 k (sub binary64 r e))) nought ≡ true
    → lt (sub binary64 m (mul binary64 k (sub binary64 q e))) nought ≡ true
push_mono k e m n q r pk se fm sm sn nq nr l o t =
    let x = sub binary64 r e in
    let y = sub binary64 q e in
    let f = mul binary64 k x in
    let g = mul binary64 k y in
    elim (sub_cases binary64 r e nr se) [
      | inl h ↦
          let d = sub_mono binary64 r q e nr nq se h o in
          let nf : T (nonneg f) = mul_nonneg_right binary64 k x pk d.0 in
          let ng : T (nonneg g) = mul_nonneg_right binary64 k y pk d.1 in
          let fg : T (le f g) = mul_mono_right binary64 k x y pk d.0 d.1 d.2 in
          let below : lt n f ≡ true = then_less binary64 n f sn nf t in
          if_less m g fm (mul-fits binary64 k y) sm ng (lt_between m n f g sm sn nf ng l below fg)
      | inr h ↦ absurd (false≢true (sym (sub_sign_set binary64 n f sn (mul_sign_set binary64 k x pk h)) ∙ t))
    ]

-- ---- for numbers above 0, and a memory e with its sign clear
module _ (hammer : Hammer) (e c0 c1 : Float) (pk : T (positive hammer.stiffness)) (se : T (finite_nonneg e))
    (f0 : T (fits binary64 c0)) (p0 : T (positive c0)) (p1 : T (positive c1)) where
  low_mono : (m n : Float) → T (fits binary64 m) → T (finite_nonneg m) → T (finite_nonneg n) → T (le m n)
      → too_low hammer e c0 c1 n ≡ true → too_low hammer e c0 c1 m ≡ true
  unfolding excess felt_force
  low_mono m n fm sm sn l t =
      let h = hammer.exponent in
      let nm = finite_nonneg_lem m sm in
      let nn = finite_nonneg_lem n sn in
      let y = mul binary64 c1 m in
      let z = mul binary64 c1 n in
      let ny : T (nonneg y) = mul_nonneg_right binary64 c1 m p1 nm in
      let nz : T (nonneg z) = mul_nonneg_right binary64 c1 n p1 nn in
      let yz : T (le y z) = mul_mono_right binary64 c1 m n p1 nm nn l in
      let v = positive_part (sub binary64 c0 y) in
      let w = positive_part (sub binary64 c0 z) in
      let sv : T (finite_nonneg v) = left_finite c0 y f0 p0 ny in
      let sw : T (finite_nonneg w) = left_finite c0 z f0 p0 nz in
      let wv : T (le w v) = left_anti c0 y z f0 p0 ny nz yz in
      let nv = power_nonneg v h (left_fits c0 y) sv in
      let nw = power_nonneg w h (left_fits c0 z) sw in
      let pwv : T (le (power_of w h) (power_of v h)) = power_mono w v h (left_fits c0 z) (left_fits c0 y) sw sv wv in
      let push : Float → Float → Float = λ a x. sub binary64 a (mul binary64 hammer.stiffness (sub binary64 x e)) in
      let below : lt (push n (power_of w h)) nought ≡ true = subst (λ (o : Float). lt (push n (power_of w h)) o ≡ true) zero_is t in
      subst (λ (o : Float). lt (push m (power_of v h)) o ≡ true) (sym zero_is)
      (push_mono hammer.stiffness e m n (power_of v h) (power_of w h) pk se fm sm sn nv nw l pwv below)

-- ---- what the code's tests say of its numbers

pub moderate_positive : (x : Float) → Moderate x → T (positive x)
moderate_positive x f =
    let t : lt nought x ≡ true = subst (λ (z : Float). lt z x ≡ true) zero_is f.0 in
    above_positive x (less_finite x limit (above_nonneg x t) f.1) t

-- the memory may be -0, and then +0 may be put for it
abbrev Memory : Float → Type 0
Memory e = (e' : Float) × T (finite_nonneg e') × SameOff e e'

memory_of : (e : Float) → Moderate e ⊎ (eq e +0 ≡ true) → Memory e
memory_of e (inl f) = (e, positive_finite e (moderate_positive e f), λ q p. refl)
memory_of e (inr t) = zero_off e (subst (λ (z : Float). eq e z ≡ true) zero_is t)

-- ---- THE LAW: what is too low stays too low further down
module _ (hammer : Hammer) (e c0 c1 top : Float) (all : AllModerate hammer e c0 c1 top) (f0 : T (fits binary64 c0)) where
  p0 : T (positive c0)
  p0 = moderate_positive c0 all.of_c0

  p1 : T (positive c1)
  p1 = moderate_positive c1 all.of_c1

  w : Memory e
  w = memory_of e all.of_memory

  same_excess : (m : Float) → T (finite_nonneg m) → excess hammer e c0 c1 m ≡ excess hammer w.0 c0 c1 m
  unfolding excess felt_force
  same_excess m s =
      let y = mul binary64 c1 m in
      let n : T (nonneg y) = mul_nonneg_right binary64 c1 m p1 (finite_nonneg_lem m s) in
      let v = positive_part (sub binary64 c0 y) in
      let h = hammer.exponent in
      let nv : T (nonneg (power_of v h)) = power_nonneg v h (left_fits c0 y) (left_finite c0 y f0 p0 n) in
      ap (λ (z : Float). sub binary64 m (mul binary64 hammer.stiffness z)) (w.2 (power_of v h) nv)

  pub threshold : (m n : Float) → T (fits binary64 m) → T (finite_nonneg m) → T (finite_nonneg n) → T (le m n)
      → too_low hammer e c0 c1 n ≡ true → too_low hammer e c0 c1 m ≡ true
  threshold m n fm sm sn l t =
      let pk = moderate_positive hammer.stiffness all.of_stiffness in
      subst (λ (z : Float). lt z +0 ≡ true) (sym (same_excess m sm))
      (low_mono hammer w.0 c0 c1 pk w.1 f0 p0 p1 m n fm sm sn l
      (subst (λ (z : Float). lt z +0 ≡ true) (same_excess n sn) t))
