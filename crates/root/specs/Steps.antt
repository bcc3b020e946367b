-- What the steps of `root` promise one another: the whole number that is the root's digits, and a pattern written with
-- an even exponent. Definitions only: assumes nothing.
use Rattle.std.specs.Prelude.{◌≡◌, ℕ, zero, suc, ◌+◌, ◌-◌, ◌*◌, ◌/◌, ◌%◌, ◌^◌, ◌<◌, ◌≤◌}
use Prim.Native.Nat.{compare}
use Rattle.std.specs.Float.Ieee.{nearest}
use Rattle.root.specs.Root.{whole_root}

-- the whole number nearest to the root of n, a tie to the even one
unfoldable pub nearest_root : ℕ → ℕ
unfolding whole_root
nearest_root n = nearest (whole_root n) (compare (4 * n) ((2 * whole_root n + 1) * (2 * whole_root n + 1)))

-- What is known of c * 2 ^ 52: it is d more than p * p.
pub record Left (p d c : ℕ) : Type 0 where
  pub small : p < 2 ^ 53
  pub most : c < 2 ^ 54
  pub is : p * p + d ≡ c * 2 ^ 52

-- A pattern from 1 up to below infinity's, as a number of the smallest values: field x, digits t.
unfoldable pub field_units : ℕ → ℕ → ℕ
field_units zero t = t
field_units (suc x) t = (2 ^ 52 + t) * 2 ^ x

unfoldable pub bit_units : ℕ → ℕ
unfolding field_units
bit_units b = field_units (b / 2 ^ 52) (b % 2 ^ 52)

-- The pattern b stands for m * 2 ^ g / 2 ^ 2148, m having 53 digits.
pub record Scaled (b m g : ℕ) : Type 0 where
  pub least : 2 ^ 52 ≤ m
  pub most : m < 2 ^ 53
  pub deep : 1022 ≤ g
  pub high : g ≤ 3120
  pub is : m * 2 ^ g ≡ bit_units b * 2 ^ 1074

-- The same with an even exponent, so that m * 2 ^ 52 has 105 or 106 digits.
pub record Paired (b m g : ℕ) : Type 0 where
  pub least : 2 ^ 52 ≤ m
  pub most : m ≤ 2 ^ 54 - 2
  pub even : g % 2 ≡ 0
  pub deep : 1022 ≤ g
  pub high : g ≤ 3120
  pub is : m * 2 ^ g ≡ bit_units b * 2 ^ 1074
