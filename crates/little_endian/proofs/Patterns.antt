-- Which patterns are a NaN's, by the test that `float_of` makes. Assumes nothing.
use mathlib.Core.Path.{◌≡◌, sym, ◌∙◌}
use mathlib.Core.Bool.{true}
use Prim.Native.Nat.{ℕ, ◌<◌, ◌%◌}
use lib.Ieee.{Float, nan, binary64, is_nan, of_bits}
use lib.Ieee.Bits.{nan_bits_is, nan_bits_above}
use borrow.Author.Tests.{lt-ltb}
use Rattle.float.specs.Numbers.{one_nan}

pub nan_is : (v : Float) → is_nan v ≡ true → nan ≡ v
nan_is v h = sym (one_nan v h)

pub above_nan : (n : ℕ) → 0x7ff0000000000000 < n % 0x8000000000000000 → nan ≡ of_bits binary64 n
above_nan n h = nan_is (of_bits binary64 n) (sym (nan_bits_is binary64 n) ∙ nan_bits_above binary64 n ∙ lt-ltb _ _ h)
