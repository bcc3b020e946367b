-- Numbers in range are no NaN, and the exponent's word is small. Assumes nothing.
use Rattle.std.specs.Prelude.{◌≡◌, refl, ℕ, ◌≤◌, Bool, true, false, not, ◌&&◌, ◌||◌, T, leb, Float}
use Rattle.std.proofs.Common.{arith, leb-true}
use Rattle.std.specs.Float.Ieee.{le, lt, is_nan}
use Rattle.counting.specs.Every.{and_left, and_right}
use Rattle.float.specs.Numbers.{lt_no_nan, le_no_nan}
use Rattle.instrument_fields.specs.Ranges.{within, strictly_between, exponent_in_range}

pub within_no_nan : (low x high : Float) → within low x high ≡ true → T (not (is_nan x))
unfolding within
within_no_nan low x high h = le_no_nan low x (and_left (le low x) (le x high) h)

pub between_no_nan : (low x high : Float) → strictly_between low x high ≡ true → T (not (is_nan x))
unfolding strictly_between
between_no_nan low x high h = lt_no_nan low x (and_left (lt low x) (lt x high) h)

pub exponent_small : (word : ℕ) → exponent_in_range word ≡ true → word ≤ 276
unfolding exponent_in_range
exponent_small word h = go (leb 2 word && leb word 10) refl h
  where
    go : (b : Bool) → (leb 2 word && leb word 10) ≡ b → (b || (leb 260 word && leb word 276)) ≡ true → word ≤ 276
    go true e t = let few = leb-true word 10 (and_right (leb 2 word) (leb word 10) e) in omega arith
    go false e t = leb-true word 276 (and_right (leb 260 word) (leb word 276) t)
