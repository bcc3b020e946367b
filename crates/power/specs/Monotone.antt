-- The power is not negative and grows with its operand, for every word, on the finite values from 0 on: each step is
-- a product or a root, which do. The word names a count of quarters (specs/Laws.antt), so it is said of those.
-- Assumes nothing.
use Rattle.std.specs.Prelude.{◌≡◌, refl, Bool, true, false, cond, T, Float}
use Rattle.std.proofs.Common.{sym, subst}
use Prim.Native.Nat.{ℕ, zero, suc}
use Rattle.std.specs.Float.{nan, inf, fin}
use Rattle.std.specs.Float.Ieee.{binary64, mul, lt, le, fits, is_nan}
use Rattle.std.specs.Float.Ieee.Positive.{positive}
use Rattle.float.specs.Order.{nonneg, finite_nonneg, nought, zero_is, finite_nonneg_lem, positive_finite, nought_least, above_positive}
use Rattle.float.specs.Order.{no_less, mul_nonneg, mul_mono}
use Rattle.root.specs.Root.{root_of}
use Rattle.root.proofs.Monotone.{root_fits, root_positive, root_mono}
use Rattle.power.specs.Power.{quarters_above, power_of, quarters_of}
use Rattle.power.specs.Laws.{by_quarters}

-- ---- a value above 0, with its root and the root's root above 0 too

module _ (x : Float) (f : T (fits binary64 x)) (p : T (positive x)) where
  nonneg_x : T (nonneg x)
  nonneg_x = finite_nonneg_lem x (positive_finite x p)

  root_above : T (positive (root_of x))
  root_above = root_positive x f p

  root_root_above : T (positive (root_of (root_of x)))
  root_root_above = root_positive (root_of x) (root_fits x f p) root_above

  -- x times its root
  product_nonneg : T (nonneg (mul binary64 x (root_of x)))
  product_nonneg = mul_nonneg binary64 x (root_of x) nonneg_x root_above

  quarters_nonneg : (e : ℕ) → T (nonneg (quarters_above x e))
  unfolding quarters_above
  quarters_nonneg zero = nonneg_x
  quarters_nonneg (suc zero) = nonneg_x
  quarters_nonneg (suc (suc zero)) = nonneg_x
  quarters_nonneg (suc (suc (suc zero))) = nonneg_x
  quarters_nonneg (suc (suc (suc (suc zero)))) = nonneg_x
  quarters_nonneg (suc (suc (suc (suc (suc zero))))) = mul_nonneg binary64 x (root_of (root_of x)) nonneg_x root_root_above
  quarters_nonneg (suc (suc (suc (suc (suc (suc zero)))))) = product_nonneg
  quarters_nonneg (suc (suc (suc (suc (suc (suc (suc zero))))))) =
      mul_nonneg binary64 (mul binary64 x (root_of x)) (root_of (root_of x)) product_nonneg root_root_above
  quarters_nonneg (suc (suc (suc (suc (suc (suc (suc (suc e)))))))) =
      mul_nonneg binary64 (quarters_above x (suc (suc (suc (suc e))))) x (quarters_nonneg (suc (suc (suc (suc e))))) p

-- ---- two of them in order

module _ (x y : Float) (f : T (fits binary64 x)) (g : T (fits binary64 y)) (p : T (positive x)) (q : T (positive y)) (l : T (le x y)) where
  roots : T (le (root_of x) (root_of y))
  roots = root_mono x y f g p q l

  root_roots : T (le (root_of (root_of x)) (root_of (root_of y)))
  root_roots =
      root_mono (root_of x) (root_of y) (root_fits x f p) (root_fits y g q) (root_above x f p) (root_above y g q) roots

  -- what is in order stays so when multiplied by the roots
  by_roots : (a b : Float) → T (nonneg a) → T (nonneg b) → T (le a b) → T (le (mul binary64 a (root_of x)) (mul binary64 b (root_of y)))
  by_roots a b m n o = mul_mono binary64 a b (root_of x) (root_of y) m n (root_above x f p) (root_above y g q) o roots

  by_root_roots : (a b : Float) → T (nonneg a) → T (nonneg b) → T (le a b)
      → T (le (mul binary64 a (root_of (root_of x))) (mul binary64 b (root_of (root_of y))))
  by_root_roots a b m n o =
      mul_mono binary64 a b (root_of (root_of x)) (root_of (root_of y)) m n (root_root_above x f p) (root_root_above y g q) o root_roots

  quarters_mono : (e : ℕ) → T (le (quarters_above x e) (quarters_above y e))
  unfolding quarters_above
  quarters_mono zero = l
  quarters_mono (suc zero) = l
  quarters_mono (suc (suc zero)) = l
  quarters_mono (suc (suc (suc zero))) = l
  quarters_mono (suc (suc (suc (suc zero)))) = l
  quarters_mono (suc (suc (suc (suc (suc zero))))) = by_root_roots x y (nonneg_x x f p) (nonneg_x y g q) l
  quarters_mono (suc (suc (suc (suc (suc (suc zero)))))) = by_roots x y (nonneg_x x f p) (nonneg_x y g q) l
  quarters_mono (suc (suc (suc (suc (suc (suc (suc zero))))))) =
      by_root_roots (mul binary64 x (root_of x)) (mul binary64 y (root_of y)) (product_nonneg x f p) (product_nonneg y g q)
      (by_roots x y (nonneg_x x f p) (nonneg_x y g q) l)
  quarters_mono (suc (suc (suc (suc (suc (suc (suc (suc e)))))))) =
      mul_mono binary64 (quarters_above x (suc (suc (suc (suc e))))) (quarters_above y (suc (suc (suc (suc e))))) x y
      (quarters_nonneg x f p (suc (suc (suc (suc e))))) (quarters_nonneg y g q (suc (suc (suc (suc e))))) p q (quarters_mono (suc (suc (suc (suc e))))) l

-- ---- any value from 0 on

not_nan : (x : Float) → T (finite_nonneg x) → is_nan x ≡ false
unfolding is_nan
not_nan nan s = absurd s
not_nan (inf b) s = refl
not_nan (fin b m e) s = refl

-- by what the test says of x
power_by : (x : Float) (word : ℕ) (b : Bool) → T (finite_nonneg x) → lt nought x ≡ b → power_of x word ≡ cond b (quarters_above x (quarters_of word)) nought
unfolding power_of
power_by x word true s t = rw (zero_is, t) (by_quarters x word)
power_by x word false s t = rw (zero_is, t, not_nan x s)

pub power_nonneg : (x : Float) (word : ℕ) → T (fits binary64 x) → T (finite_nonneg x) → T (nonneg (power_of x word))
power_nonneg x word f s = go (lt nought x) refl
  where
    go : (b : Bool) → lt nought x ≡ b → T (nonneg (power_of x word))
    go true t =
        subst (λ (z : Float). T (nonneg z)) (sym (power_by x word true s t)) (quarters_nonneg x f (above_positive x s t) (quarters_of word))
    go false t = subst (λ (z : Float). T (nonneg z)) (sym (power_by x word false s t)) tt

pub power_mono : (x y : Float) (word : ℕ) → T (fits binary64 x) → T (fits binary64 y) → T (finite_nonneg x) → T (finite_nonneg y)
    → T (le x y) → T (le (power_of x word) (power_of y word))
power_mono x y word f g p q l = go (lt nought x) (lt nought y) refl refl
  where
    go : (b c : Bool) → lt nought x ≡ b → lt nought y ≡ c → T (le (power_of x word) (power_of y word))
    go true true s t =
        subst (λ (z : Float). T (le z (power_of y word))) (sym (power_by x word true p s))
        (subst (λ (z : Float). T (le (quarters_above x (quarters_of word)) z)) (sym (power_by y word true q t))
        (quarters_mono x y f g (above_positive x p s) (above_positive y q t) l (quarters_of word)))
    go true false s t = absurd (no_less x y p q l s t)
    go false c s t =
        subst (λ (z : Float). T (le z (power_of y word))) (sym (power_by x word false p s))
        (nought_least (power_of y word) (power_nonneg y word g q))
