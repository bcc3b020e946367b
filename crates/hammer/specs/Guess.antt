-- The search by a guess, which `contact_force` tries before it halves by the felt's own test: the ends that its
-- halvings leave, and what it asks of its numbers.
-- Definitions only: assumes nothing. What a guess finds is `force_of` all the same: proofs/Found.
use Rattle.std.specs.Prelude.{ℕ, zero, suc, ◌≡◌, Bool, true, cond, ◌⊎◌, Float}
use Rattle.std.specs.Float.{binary64}
use Rattle.std.specs.Float.Ieee.{lt, le, eq, of_bits}
use Rattle.float.specs.Float.{zero as +0}
use Rattle.hammer.specs.declared.Hammer.{Hammer}
use Rattle.hammer.specs.Contact.{excess, middle}

-- the felt's own test: a force m is too low where it is below the felt's force at the compression that m leaves
abbrev pub too_low : Hammer → Float → Float → Float → Float → Bool
too_low hammer eps_r c0 c1 m = lt (excess hammer eps_r c0 c1 m) +0

-- the two ends that n halvings leave, going by two tests: one moves the low end up to the middle, the other the high end down to it
unfoldable pub low_end : (Float → Bool) → (Float → Bool) → ℕ → Float → Float → Float
unfolding middle
low_end up down zero lo hi = lo
low_end up down (suc n) lo hi =
    low_end up down n (cond (up (middle lo hi)) (middle lo hi) lo) (cond (down (middle lo hi)) (middle lo hi) hi)

unfoldable pub high_end : (Float → Bool) → (Float → Bool) → ℕ → Float → Float → Float
unfolding middle
high_end up down zero lo hi = hi
high_end up down (suc n) lo hi =
    high_end up down n (cond (up (middle lo hi)) (middle lo hi) lo) (cond (down (middle lo hi)) (middle lo hi) hi)

-- the same by a guess of the force: up where the middle is below the guess, down where it is not
abbrev pub low_by_guess : Float → ℕ → Float → Float → Float
low_by_guess guess = low_end (λ m. lt m guess) (λ m. le guess m)

abbrev pub high_by_guess : Float → ℕ → Float → Float → Float
high_by_guess guess = high_end (λ m. lt m guess) (λ m. le guess m)

-- 2 ^ 1000
abbrev pub limit : Float
limit = of_bits binary64 0x7e70_0000_0000_0000

-- above 0 and far from infinity, so that the sum of two such numbers is finite
abbrev pub Moderate : Float → Type 0
Moderate x = (lt +0 x ≡ true) × (lt x limit ≡ true)

-- what a search by a guess asks of its numbers; a felt that was not compressed before has a memory of 0
pub record AllModerate (hammer : Hammer) (eps_r c0 c1 top : Float) : Type 0 where
  pub of_stiffness : Moderate hammer.stiffness
  pub of_memory : Moderate eps_r ⊎ (eq eps_r +0 ≡ true)
  pub of_c0 : Moderate c0
  pub of_c1 : Moderate c1
  pub of_top : Moderate top
