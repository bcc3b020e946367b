-- What the loop over the output may take for granted once nothing is refused. Definitions only: assumes nothing.
use Rattle.std.specs.Prelude.{◌≡◌, List, ℕ, ◌≤◌, length, Float}
use Rattle.decimator.specs.Decimate.{output_length}

pub record Thins (x taps : List Float) (factor : ℕ) (out : List Float) : Type 0 where
  pub most : length x ≤ 1048576
  pub many : length taps ≡ 127
  pub several : 2 ≤ factor
  pub room : length out ≡ output_length (length x) factor
