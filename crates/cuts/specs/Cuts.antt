-- Document 01, "One sample": "With half = n + 0.5 × φ, the cuts round half × ratio, ties away from zero, clamped as
-- in `StringWg::new`; their three lengths sum to n." A difference of whole numbers stops at 0 here, as the Rust's
-- `saturating_sub` does. Definitions only: assumes nothing.
use Rattle.std.specs.Prelude.{ℕ, ◌+◌, ◌-◌, min, max, pos, Float}
use Rattle.std.specs.Float.{binary64}
use Rattle.std.specs.Float.Ieee.{add, mul, of_int}
use Rattle.float.specs.Float.{half, round_away}
use Rattle.cuts.specs.declared.Cuts.{Cuts}

-- n + 0.5 × φ
unfoldable pub half_of : ℕ → Float → Float
unfolding add mul of_int
half_of n φ = add binary64 (of_int binary64 (pos n)) (mul binary64 half φ)

abbrev pub clamp_to : ℕ → ℕ → ℕ → ℕ
clamp_to x lo hi = min (max x lo) hi

-- half × ratio rounded, ties away from zero, and clamped
unfoldable pub cell_at : Float → Float → ℕ → ℕ → ℕ
unfolding round_away mul
cell_at half ratio lo hi = clamp_to (round_away (mul binary64 half ratio)) lo hi

-- struck at na, from 1 to n - 2; damped at nd, behind the strike point and at most n - 1; the lengths are what lies between
unfoldable pub cuts_of : ℕ → Float → Float → Float → Cuts
unfolding cell_at half_of
cuts_of n φ strike damper =
    let na = cell_at (half_of n φ) strike 1 (max (n - 2) 1) in
    let nd = cell_at (half_of n φ) damper (na + 1) (max (n - 1) (na + 1)) in
    record { na = na; nb = nd - na; nc = max (n - nd) 1 }
