-- Halvings by two opposite tests u and d in the place of a test t that is one of a threshold: where t finds the low
-- end that they leave too low, and the high end not, t would have gone the same way at every turn, since each middle
-- lies at or below the low end that is left, or at or above the high one. Assumes nothing.
use mathlib.Core.Path.{◌≡◌, refl, sym, subst}
use Prim.Native.Nat.{ℕ, zero, suc}
use native.Mathlib.Nat.{le_of_eq}
use mathlib.Core.Bool.{Bool, true, false, not, cond, true≢false, false≢true}
use lib.Dec.{T}
use lib.Ieee.{Float, binary64, le, fits}
use Rattle.float.specs.Order.{finite_nonneg}
use Rattle.float.specs.Units.{has_finite, ordered}
use Rattle.hammer.specs.Contact.{middle, bisect}
use Rattle.hammer.specs.Guess.{low_end, high_end}
use Rattle.hammer.proofs.Middle.{Within, Start, middle_within, upper, lower, weaker}

-- what halvings start from are values of the format between the two ends

low_start : (x y : Float) (a b : ℕ) → Start x y a b → Within x a b
low_start x y a b s = record { at = a; has = s.hx; fit = s.fx; least = le_of_eq refl; most = s.order }

high_start : (x y : Float) (a b : ℕ) → Start x y a b → Within y a b
high_start x y a b s = record { at = b; has = s.hy; fit = s.fy; least = s.order; most = le_of_eq refl }

-- ---- what t says of the values at and below l, and at and above h
abbrev pub Lows : (Float → Bool) → Float → Type 0
Lows t l = (m : Float) → T (fits binary64 m) → T (finite_nonneg m) → T (le m l) → t m ≡ true

abbrev pub Highs : (Float → Bool) → Float → Type 0
Highs t h = (m : Float) → T (fits binary64 m) → T (finite_nonneg m) → T (le h m) → t m ≡ false

-- the second test says the contrary of the first
abbrev pub Opposite : (Float → Bool) → (Float → Bool) → Type 0
Opposite u d = (m : Float) → T (finite_nonneg m) → d m ≡ not (u m)

module _ (u d : Float → Bool) (opposite : Opposite u d) where
  at_middle : (x y : Float) (a b : ℕ) → Within (middle x y) a b → d (middle x y) ≡ not (u (middle x y))
  at_middle x y a b w = opposite (middle x y) (has_finite (middle x y) w.at w.has)

  -- ---- both ends stay between the ones that the halvings start from
  abbrev EndsWithin : ℕ → Float → Float → ℕ → ℕ → Type 0
  EndsWithin n x y a b = Within (low_end u d n x y) a b × Within (high_end u d n x y) a b

  pub ends_within : (n : ℕ) (x y : Float) (a b : ℕ) → Start x y a b → EndsWithin n x y a b
  unfolding low_end high_end
  ends_within zero x y a b s = (low_start x y a b s, high_start x y a b s)
  ends_within (suc n) x y a b s =
      let w = middle_within x y a b s in
      go (u (middle x y)) (d (middle x y)) (at_middle x y a b w) w (ends_within n)
    where
      go : (p q : Bool) → q ≡ not p → Within (middle x y) a b
          → ((x y : Float) (a b : ℕ) → Start x y a b → EndsWithin n x y a b)
          → EndsWithin n (cond p (middle x y) x) (cond q (middle x y) y) a b
      go true true e w ih = absurd (true≢false e)
      go true false e w ih =
          let m = middle x y in
          let r = ih m y w.at b (upper x y a b s w) in (
            weaker (low_end u d n m y) w.at b a b w.least (le_of_eq refl) r.0,
            weaker (high_end u d n m y) w.at b a b w.least (le_of_eq refl) r.1,
          )
      go false true e w ih =
          let m = middle x y in
          let r = ih x m a w.at (lower x y a b s w) in (
            weaker (low_end u d n x m) a w.at a b (le_of_eq refl) w.most r.0,
            weaker (high_end u d n x m) a w.at a b (le_of_eq refl) w.most r.1,
          )
      go false false e w ih = absurd (false≢true e)

  -- ---- where t agrees at the ends, the halvings are those by t
  pub same_halvings : (t : Float → Bool) (n : ℕ) (x y : Float) (a b : ℕ) → Start x y a b
      → Lows t (low_end u d n x y) → Highs t (high_end u d n x y)
      → middle (low_end u d n x y) (high_end u d n x y) ≡ bisect t n x y
  unfolding bisect low_end high_end
  same_halvings t zero x y a b s lows highs = refl
  same_halvings t (suc n) x y a b s lows highs =
      let w = middle_within x y a b s in
      go (u (middle x y)) (d (middle x y)) (at_middle x y a b w) w lows highs (same_halvings t n)
    where
      go : (p q : Bool) → q ≡ not p → Within (middle x y) a b
          → Lows t (low_end u d n (cond p (middle x y) x) (cond q (middle x y) y))
          → Highs t (high_end u d n (cond p (middle x y) x) (cond q (middle x y) y))
          → ((x y : Float) (a b : ℕ) → Start x y a b → Lows t (low_end u d n x y) → Highs t (high_end u d n x y)
          → middle (low_end u d n x y) (high_end u d n x y) ≡ bisect t n x y)
          → middle (low_end u d n (cond p (middle x y) x) (cond q (middle x y) y)) (high_end u d n (cond p (middle x y) x) (cond q (middle x y) y))
          ≡ bisect t n (cond (t (middle x y)) (middle x y) x) (cond (t (middle x y)) y (middle x y))
      go true true e w ls hs ih = absurd (true≢false e)
      go true false e w ls hs ih =
          let m = middle x y in
          let s' = upper x y a b s w in
          let l = (ends_within n m y w.at b s').0 in
          let below : T (le m (low_end u d n m y)) = ordered m (low_end u d n m y) w.at l.at w.has l.has l.least in
          let e : t m ≡ true = ls m w.fit (has_finite m w.at w.has) below in
          subst (λ (c : Bool). middle (low_end u d n m y) (high_end u d n m y) ≡ bisect t n (cond c m x) (cond c y m))
          (sym e) (ih m y w.at b s' ls hs)
      go false true e w ls hs ih =
          let m = middle x y in
          let s' = lower x y a b s w in
          let h = (ends_within n x m a w.at s').1 in
          let above : T (le (high_end u d n x m) m) = ordered (high_end u d n x m) m h.at w.at h.has w.has h.most in
          let e : t m ≡ false = hs m w.fit (has_finite m w.at w.has) above in
          subst (λ (c : Bool). middle (low_end u d n x m) (high_end u d n x m) ≡ bisect t n (cond c m x) (cond c y m))
          (sym e) (ih x m a w.at s' ls hs)
      go false false e w ls hs ih = absurd (false≢true e)
