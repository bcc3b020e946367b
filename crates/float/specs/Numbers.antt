-- What a test of the code says of NaN: `x != x` tells it, whatever compares is none, and no pattern up to infinity's is its. Assumes nothing.
use Rattle.std.specs.Prelude.{◌≡◌, ℕ, ◌%◌, ◌^◌, ◌≤◌, Bool, true, false, not, T, refl, Float}
use Rattle.std.proofs.Common.{sym, ◌∙◌, subst, true≢false, le-ltb}
use Rattle.std.proofs.lemmas.Bool.{false≢true}
use Rattle.std.specs.Float.{nan, inf, fin, binary64}
use Rattle.std.specs.Float.Ieee.{le, lt, ne, is_nan, nan_bits}
use Rattle.std.specs.Float.Ieee.Bits.{nan_bits_above}
use Rattle.std.specs.Float.Ieee.Compare.{differs_from_itself, nan_differs}

-- only NaN differs from itself
pub differs_nan : (x : Float) → ne x x ≡ true → x ≡ nan
differs_nan x h = differs_from_itself x (subst T (sym h) tt)

-- there is one NaN
pub one_nan : (x : Float) → is_nan x ≡ true → x ≡ nan
unfolding is_nan
one_nan nan h = refl
one_nan (inf s) h = absurd (subst T (sym h) tt)
one_nan (fin s m e) h = absurd (subst T (sym h) tt)

-- what does not differ from itself is a number
pub same_number : (x : Float) → ne x x ≡ false → is_nan x ≡ false
unfolding is_nan
same_number nan h = absurd (true≢false (sym nan_differs ∙ h))
same_number (inf s) h = refl
same_number (fin s m e) h = refl

-- what is below something is a number
pub less_number : (x y : Float) → lt x y ≡ true → is_nan x ≡ false
unfolding lt is_nan
less_number nan y h = absurd (false≢true h)
less_number (inf s) y h = refl
less_number (fin s m e) y h = refl

-- what is above something is a number
pub more_number : (x y : Float) → lt x y ≡ true → is_nan y ≡ false
unfolding lt is_nan
more_number nan y h = absurd (false≢true h)
more_number (inf s) nan h = absurd (false≢true h)
more_number (inf s) (inf t) h = refl
more_number (inf s) (fin t n d) h = refl
more_number (fin s m e) nan h = absurd (false≢true h)
more_number (fin s m e) (inf t) h = refl
more_number (fin s m e) (fin t n d) h = refl

-- the same, as the conversion to bits asks it
pub lt_no_nan : (x y : Float) → lt x y ≡ true → T (not (is_nan y))
lt_no_nan x y h = rw (more_number x y h) tt

le_nan : (x : Float) → le x nan ≡ false
unfolding le
le_nan nan = refl
le_nan (inf s) = refl
le_nan (fin s m e) = refl

pub le_no_nan : (x y : Float) → le x y ≡ true → T (not (is_nan y))
unfolding is_nan
le_no_nan x nan h = absurd (false≢true (sym (le_nan x) ∙ h))
le_no_nan x (inf s) h = tt
le_no_nan x (fin s m e) h = tt

-- a pattern whose lower 63 bits are at most infinity's is a number's
pub low_no_nan : (n : ℕ) → n % 2 ^ 63 ≤ 0x7ff0_0000_0000_0000 → T (not (nan_bits binary64 n))
low_no_nan n h = subst (λ (t : Bool). T (not t)) (sym (nan_bits_above binary64 n ∙ le-ltb 0x7ff0_0000_0000_0000 (n % 2 ^ 63) h)) tt
