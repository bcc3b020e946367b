-- Document 01, "The session": "the decimator takes 127 lent taps in place of its sines, factor 0 to 64, and copies
-- for 0 or 1 into an output of the input's length; otherwise output holds
-- length/factor rounded up." Each value is the Rust's sum, from +0, tap by tap. Definitions only: assumes nothing.
use Rattle.std.specs.Prelude.{◌≡◌, cond, ◌&&◌, ◌||◌, List, ℕ, zero, suc, ◌+◌, ◌-◌, ◌*◌, ◌/◌, ◌%◌, eqb, leb, ltb, length, get_or, Float}
use Rattle.std.specs.Float.{nan, binary64}
use Rattle.std.specs.Float.Ieee.{add, mul}
use Rattle.float.specs.Float.{zero as +0}
use Rattle.counting.specs.Below.{tabulate}

-- length / factor rounded up; the length itself for factor 0 or 1
unfoldable pub output_length : ℕ → ℕ → ℕ
output_length n factor = cond (leb factor 1) n (cond (eqb (n % factor) 0) (n / factor) (n / factor + 1))

-- "17. The factor exceeds 64 or the input exceeds 1,048,576." "18. There aren't 127 taps." "19. The decimator's output length is wrong."
unfoldable pub refusal_of : ℕ → ℕ → ℕ → ℕ → ℕ
unfolding output_length
refusal_of n taps factor room =
    cond (ltb 64 factor || ltb 1048576 n) 17 (cond (eqb taps 127) (cond (eqb room (output_length n factor)) 0 19) 18)

-- Tap k meets sample at + k - 63; past either end of the signal it adds nothing.
unfoldable pub weighed : List Float → List Float → ℕ → ℕ → Float → Float
weighed x taps at k sum =
    cond (leb 63 (at + k) && ltb (at + k - 63) (length x)) (add binary64 sum (mul binary64 (get_or taps k nan) (get_or x (at + k - 63) nan))) sum

-- the first n taps, in order, from +0
unfoldable pub tap_sum : List Float → List Float → ℕ → ℕ → Float
unfolding weighed
tap_sum x taps at zero = +0
tap_sum x taps at (suc n) = weighed x taps at n (tap_sum x taps at n)

abbrev pub filtered_at : List Float → List Float → ℕ → Float
filtered_at x taps at = tap_sum x taps at 127

-- every factor-th sample, filtered; for factor 0 or 1 the signal
unfoldable pub decimated : List Float → List Float → ℕ → List Float
unfolding tap_sum
decimated x taps factor = cond (leb factor 1) x (tabulate (output_length (length x) factor) (λ i. filtered_at x taps (i * factor)))

-- what `decimate` promises: the refusal's number or 0; on refusal the output as it was; else the decimated signal
pub record DecimateMeets (x taps : List Float) (factor : ℕ) (out : List Float) (r : ℕ) (out' : List Float) : Type 0 where
  pub number : r ≡ refusal_of (length x) (length taps) factor (length out)
  pub refuses : (r ≡ 0 → ⊥) → out' ≡ out
  pub accepts : r ≡ 0 → out' ≡ decimated x taps factor
