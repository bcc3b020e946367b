-- Document 01, "Power and root": "The root is correctly rounded, ties to even, stated by comparing whole squares;
-- subnormal numbers are scaled by their leading zeros; infinity gives infinity, either zero itself, NaN and numbers
-- below zero NaN." That this is IEEE 754's squareRoot is said in specs/Law.antt. Definitions only: assumes nothing.
use Rattle.std.specs.Prelude.{ℕ, zero, suc, ◌+◌, ◌-◌, ◌*◌, ◌/◌, ◌^◌, true, false, cond, nat_le, Float}
use Prim.Native.Nat.{compare}
use Rattle.std.specs.Float.{nan, inf, fin, Format, binary64}
use Rattle.std.specs.Float.Ieee.{prec, low, up, down, size, nearest, units}

-- The whole root of an n below 4 ^ d: the largest r with r * r ≤ n, one binary digit at a time.
unfoldable pub digit : ℕ → ℕ → ℕ
digit n r = cond (nat_le ((2 * r + 1) * (2 * r + 1)) n) (2 * r + 1) (2 * r)

unfoldable pub whole : ℕ → ℕ → ℕ
unfolding digit
whole zero n = 0
whole (suc d) n = digit n (whole d (n / 4))

-- The whole root of any n, which is below 4 ^ (size n / 2 + 1).
unfoldable pub whole_root : ℕ → ℕ
unfolding whole
whole_root n = whole (size n / 2 + 1) n

-- The value of f nearest to the root of n / 2 ^ low f, a tie to the even one. In units of f's smallest value, 2 ^ - low
-- f, that root is the root of m = n * 2 ^ low f.
-- Of its whole part the format keeps the `prec` leading digits, q, and drops k; the root lies from q * 2 ^ k to (q + 1)
-- * 2 ^ k, and is compared with the middle of the two by their squares.
unfoldable pub root_units : Format → ℕ → Float
unfolding whole_root units
root_units f n =
    let m = n * 2 ^ low f in
    let w = whole_root m in
    let k = size w - prec f in
    let q = w / 2 ^ k in
    units f false (nearest q (compare (4 * m) ((2 * q + 1) * 2 ^ k * ((2 * q + 1) * 2 ^ k)))) k

-- A number m * 2 ^ e above zero is handed over in units of the format's smallest value, which is a whole number: so a
-- subnormal number needs no case of its own.
unfoldable pub root_of : Float → Float
unfolding root_units
root_of nan = nan
root_of (inf false) = inf false
root_of (inf true) = nan
root_of (fin s zero e) = fin s zero e
root_of (fin true (suc m) e) = nan
root_of (fin false (suc m) e) = root_units binary64 (suc m * up e * 2 ^ low binary64 / down e)
