-- What the clamps give: each length is at least 1, and from n = 3 on "their three lengths sum to n". Assumes nothing.
use Rattle.std.specs.Prelude.{◌≡◌, ℕ, ◌+◌, ◌-◌, ◌^◌, ◌<◌, ◌≤◌, max, Float}
use Rattle.std.proofs.Common.{arith}
use Rattle.cuts.specs.declared.Cuts.{Cuts}
use Rattle.cuts.specs.Cuts.{half_of, cell_at, cuts_of}

pub record Sums (n : ℕ) (cuts : Cuts) : Type 0 where
  pub a : 0 < cuts.na
  pub b : 0 < cuts.nb
  pub c : 0 < cuts.nc
  pub sum : 3 ≤ n → cuts.na + cuts.nb + cuts.nc ≡ n

-- a clamped cell lies between its ends
pub cell_between : (half ratio : Float) (lo hi : ℕ) → lo ≤ hi → (lo ≤ cell_at half ratio lo hi) × (cell_at half ratio lo hi ≤ hi)
unfolding cell_at
cell_between half ratio lo hi h = (omega arith, omega arith)

-- from n = 3 on the clamps leave a cell behind the damper, and the lengths are differences that cancel
strike_end : (n na : ℕ) → 3 ≤ n → na ≤ max (n - 2) 1 → na + 2 ≤ n
strike_end n na q k = omega arith

damper_end : (n na nd : ℕ) → na + 2 ≤ n → nd ≤ max (n - 1) (na + 1) → nd + 1 ≤ n
damper_end n na nd k m = omega arith

cancels : (n na nd : ℕ) → na + 1 ≤ nd → nd + 1 ≤ n → na + (nd - na) + max (n - nd) 1 ≡ n
cancels n na nd l m = omega arith

-- any two cells within the clamps
sums : (n na nd : ℕ) → 1 ≤ na → na ≤ max (n - 2) 1 → na + 1 ≤ nd → nd ≤ max (n - 1) (na + 1)
    → Sums n (record { na = na; nb = nd - na; nc = max (n - nd) 1 })
sums n na nd h k l m = record {
  a = h;
  b = omega arith;
  c = omega arith;
  sum = λ q. cancels n na nd l (damper_end n na nd (strike_end n na q k) m);
}

pub cuts_sum : (n : ℕ) (φ strike damper : Float) → Sums n (cuts_of n φ strike damper)
unfolding cuts_of
cuts_sum n φ strike damper =
    let na = cell_at (half_of n φ) strike 1 (max (n - 2) 1) in
    let s = cell_between (half_of n φ) strike 1 (max (n - 2) 1) (omega arith) in
    let d = cell_between (half_of n φ) damper (na + 1) (max (n - 1) (na + 1)) (omega arith) in
    sums n na _ s.0 s.1 d.0 d.1

-- the cell behind the strike point is a number of 64 bits where n is one
pub next_fits : (n end na : ℕ) (half ratio : Float) → n < 2 ^ 64 → end ≡ max (n - 2) 1 → na ≡ cell_at half ratio 1 end → na + 1 < 2 ^ 64
next_fits n end na half ratio h e k =
    let b = (cell_between half ratio 1 end (omega arith)).1 in
    omega arith
