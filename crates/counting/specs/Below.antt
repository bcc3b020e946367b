-- What holds of, adds up over, or is listed for each number below n; a list filled up to a length. Definitions only: assumes nothing.
use Rattle.std.specs.Prelude.{Bool, true, ◌&&◌, List, [], ◌∷◌, ◌++◌, ℕ, zero, suc, ◌+◌, ◌-◌, length, replicate}

unfoldable pub all_below : ℕ → (ℕ → Bool) → Bool
all_below zero P = true
all_below (suc n) P = all_below n P && P n

unfoldable pub sum_below : ℕ → (ℕ → ℕ) → ℕ
sum_below zero S = 0
sum_below (suc n) S = sum_below n S + S n

module _ {A : Type 0} where
  -- the lists of each number below n, one after the other
  unfoldable pub gather : ℕ → (ℕ → List A) → List A
  gather zero G = []
  gather (suc n) G = gather n G ++ G n

  unfoldable pub tabulate : ℕ → (ℕ → A) → List A
  tabulate zero g = []
  tabulate (suc n) g = tabulate n g ++ (g n ∷ [])

  -- xs, and z up to N elements
  unfoldable pub pad : ℕ → A → List A → List A
  pad N z xs = xs ++ replicate (N - length xs) z
