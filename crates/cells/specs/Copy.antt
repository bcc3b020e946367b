-- Two parts of w cells in a memory of n cells, with no cell in common: what a copy of one over the other asks. Definitions only: assumes nothing.
use Rattle.std.specs.Prelude.{◌⊎◌, ℕ, ◌+◌, ◌≤◌}

pub record Apart (n to from w : ℕ) : Type 0 where
  pub goes : to + w ≤ n
  pub comes : from + w ≤ n
  pub apart : (to + w ≤ from) ⊎ (from + w ≤ to)
