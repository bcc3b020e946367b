-- `bisect` and the two ends turn by turn, and `force_of` by cases, as the code goes: with i of n halvings done, the
-- ones left give what all n give. Assumes nothing.
use mathlib.Core.Path.{◌≡◌}
use Prim.Native.Nat.{ℕ, suc, ◌+◌, ◌-◌, ◌<◌, ◌≤◌}
use native.Mathlib.Omega.{arith}
use mathlib.Core.Bool.{Bool, true, false, cond}
use lib.Ieee.{Float, binary64, div, le}
use Rattle.float.specs.Float.{zero as +0}
use Rattle.hammer.specs.declared.Hammer.{Hammer}
use Rattle.hammer.specs.Contact.{felt_force, middle, bisect, force_of}
use Rattle.hammer.specs.Guess.{too_low, low_end, high_end}

-- ---- any test, n halvings in all, of which i are done

module _ (low : Float → Bool) (n i : ℕ) (lo hi whole : Float) where
  -- one turn: with m the middle, a what the test says of it, and b the way that was gone
  pub turn : (m : Float) (a b : Bool) → i < n → m ≡ middle lo hi → a ≡ low m → a ≡ b → bisect low (n - i) lo hi ≡ whole
      → bisect low (n - (i + 1)) (cond b m lo) (cond b hi m) ≡ whole
  unfolding bisect
  turn m a b l e s t v =
      let left : n - i ≡ suc (n - (i + 1)) = omega arith in
      rw (← t, s, e) (rw left at v)

  -- the last turn is done: the middle is the result
  pub last : i ≤ n → n ≤ i → bisect low (n - i) lo hi ≡ whole → middle lo hi ≡ whole
  unfolding bisect
  last a b v = let none : n - i ≡ 0 = omega arith in rw none at v

-- ---- the same of the ends, by any two tests
module _ (up down : Float → Bool) (n i : ℕ) (lo hi l h : Float) where
  pub ends_turn : (m x y : Float) → i < n → m ≡ middle lo hi → x ≡ cond (up m) m lo → y ≡ cond (down m) m hi
      → low_end up down (n - i) lo hi ≡ l → high_end up down (n - i) lo hi ≡ h
      → (low_end up down (n - (i + 1)) x y ≡ l) × (high_end up down (n - (i + 1)) x y ≡ h)
  unfolding low_end high_end
  ends_turn m x y s e a b v w =
      let left : n - i ≡ suc (n - (i + 1)) = omega arith in
      (rw (a, b, e) (rw left at v), rw (a, b, e) (rw left at w))

  pub ends_last : i ≤ n → n ≤ i → low_end up down (n - i) lo hi ≡ l → high_end up down (n - i) lo hi ≡ h
      → (lo ≡ l) × (hi ≡ h)
  unfolding low_end high_end
  ends_last a b v w = let none : n - i ≡ 0 = omega arith in (rw none at v, rw none at w)

-- ---- the two tests before the halvings

module _ (hammer : Hammer) (eps_r c0 c1 : Float) where
  pub no_approach : le c0 +0 ≡ true → +0 ≡ force_of hammer eps_r c0 c1
  unfolding force_of
  no_approach t = rw t

  pub no_push : (f : Float) → le c0 +0 ≡ false → f ≡ felt_force hammer eps_r c0 → le f +0 ≡ true → +0 ≡ force_of hammer eps_r c0 c1
  unfolding force_of
  no_push f t e u = rw (t, ← e, u)

  -- neither test answers: the halvings do
  pub pushing : (f r : Float) → le c0 +0 ≡ false → f ≡ felt_force hammer eps_r c0 → le f +0 ≡ false
      → r ≡ bisect (too_low hammer eps_r c0 c1) 50 +0 (div binary64 c0 c1) → r ≡ force_of hammer eps_r c0 c1
  unfolding force_of
  pushing f r t e u h = rw (t, ← e, u) h
