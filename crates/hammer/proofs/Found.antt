-- Halvings by a guess give the force that halvings by the felt's own test do, where that test agrees at the two ends
-- which they leave. Assumes nothing.
use mathlib.Core.Path.{◌≡◌, refl, sym, ap, ◌∙◌, subst}
use Prim.Native.Nat.{ℕ, ◌*◌, ◌^◌, ◌<◌}
use native.Mathlib.Nat.{lt_of_lt_of_le}
use native.Mathlib.Omega.{arith}
use mathlib.Core.Bool.{Bool, true, false, true≢false}
use lib.IntN.{pos}
use lib.Dec.{T, lit≤}
use lib.Ieee.{Float, nan, inf, fin, binary64, lt, le, fits, of_bits}
use Rattle.float.specs.Float.{zero as +0}
use Rattle.float.specs.Order.{finite_nonneg, zero_is, positive_finite, under_power, above_nonneg, le_not_lt}
use Rattle.float.specs.Units.{Has, has_finite, units_below}
use Rattle.hammer.specs.declared.Hammer.{Hammer}
use Rattle.hammer.specs.Contact.{middle, bisect}
use Rattle.hammer.specs.Guess.{too_low, low_by_guess, high_by_guess, limit, Moderate, AllModerate}
use Rattle.hammer.proofs.Threshold.{moderate_positive, threshold}
use Rattle.hammer.proofs.Middle.{from_zero}
use Rattle.hammer.proofs.Guess.{Opposite, ends_within, same_halvings}

-- the two tests of a guess above 0 are opposite
opposite : (g : Float) → lt +0 g ≡ true → Opposite (λ m. lt m g) (λ m. le g m)
opposite g t m q = le_not_lt g m (above_nonneg g (subst (λ (z : Float). lt z g ≡ true) zero_is t)) q

-- ---- where the halvings start: from 0 to a moderate number

limit_is : limit ≡ fin false 1 (pos 1000)
unfolding of_bits
limit_is = refl

room : (y : Float) → Moderate y → (b : ℕ) → Has y b → 2 * b < 2 ^ 2098
room nan g b h = absurd h
room (inf s) g b h = absurd h
room (fin true m e) g b h = absurd (moderate_positive (fin true m e) g)
room (fin false m e) g b h =
    let l = under_power m e 1000 (subst (λ (z : Float). lt (fin false m e) z ≡ true) limit_is g.1) in
    lt_of_lt_of_le (twice b (2 ^ 2074) (units_below m e b 1000 l h)) (lit≤ tt)
  where
    twice : (b c : ℕ) → b < c → 2 * b < 2 * c
    twice b c h = omega arith

-- ---- THE LAW of the search
module _ (hammer : Hammer) (e c0 c1 top : Float) (all : AllModerate hammer e c0 c1 top) (f0 : T (fits binary64 c0)) (ft : T (fits binary64 top)) where
  -- a is what the felt's test says of the low end, b what it says of the high one
  pub found : (g lo hi : Float) (a b : Bool) → lt +0 g ≡ true → lo ≡ low_by_guess g 50 +0 top → hi ≡ high_by_guess g 50 +0 top
      → a ≡ too_low hammer e c0 c1 lo → a ≡ true → b ≡ too_low hammer e c0 c1 hi → b ≡ false
      → middle lo hi ≡ bisect (too_low hammer e c0 c1) 50 +0 top
  found g lo hi a b pg el eh al at bh bf =
      let u : Float → Bool = λ m. lt m g in
      let d : Float → Bool = λ m. le g m in
      let o = opposite g pg in
      let s = from_zero top ft (positive_finite top (moderate_positive top all.of_top)) (room top all.of_top) in
      let w = ends_within u d o 50 +0 top 0 s.0 s.1 in
      let l = low_by_guess g 50 +0 top in
      let h = high_by_guess g 50 +0 top in
      let sl : T (finite_nonneg l) = has_finite l w.0.at w.0.has in
      let sh : T (finite_nonneg h) = has_finite h w.1.at w.1.has in
      let yes = subst (λ (z : Float). too_low hammer e c0 c1 z ≡ true) el (sym al ∙ at) in
      let no = subst (λ (z : Float). too_low hammer e c0 c1 z ≡ false) eh (sym bh ∙ bf) in
      ap (λ (z : Float). middle z hi) el ∙ ap (λ (z : Float). middle l z) eh
      ∙ same_halvings u d o (too_low hammer e c0 c1) 50 +0 top 0 s.0 s.1
      (λ m fm sm below. threshold hammer e c0 c1 top all f0 m l fm sm sl below yes)
      (λ m fm sm above. is_false (too_low hammer e c0 c1 m)
      (λ t. true≢false (sym (threshold hammer e c0 c1 top all f0 h m w.1.fit sh sm above t) ∙ no)))
    where
      is_false : (c : Bool) → (c ≡ true → ⊥) → c ≡ false
      is_false true n = absurd (n refl)
      is_false false n = refl
