-- What the quick way of `root` rests on: the rounded root of n is the one r with r * r - r < n ≤ r * r + r, whatever r
-- was guessed from. Assumes nothing.
use Rattle.std.proofs.Common.{◌≡◌, ℕ, ◌+◌, ◌-◌, ◌*◌, ◌%◌, ◌^◌, ◌<◌, ◌≤◌, ◌⊎◌, ap, ◌∙◌, inl, inr, arith}
use Rattle.root.specs.Steps.{nearest_root}
use Rattle.root.proofs.Squares.{sq_add, sq_suc, round_down, round_up, lt_or_ge}

pub nearest_is : (n r : ℕ) → 0 < r → r * r < n + r → n ≤ r * r + r → r ≡ nearest_root n
nearest_is n r p l h = go (lt_or_ge n (r * r))
  where
    go : (n < r * r) ⊎ (r * r ≤ n) → r ≡ nearest_root n
    go (inl g) =
        let q = r - 1 in
        let e : r ≡ q + 1 = omega arith in
        let f : r * r ≡ (q + 1) * (q + 1) = ap (λ (x : ℕ). x * x) e in
        let s = sq_suc q in
        e ∙ round_up n q (omega arith, omega arith) (omega arith)
    go (inr g) = let s = sq_suc r in round_down n r (g, omega arith) h

-- the three numbers after p
pub after_1 : (n p d : ℕ) → p * p + d ≡ n → p < d → d ≤ 3 * p + 2 → p + 1 ≡ nearest_root n
after_1 n p d e l h = let s = sq_add p 1 in nearest_is n (p + 1) (omega arith) (omega arith) (omega arith)

pub after_2 : (n p d : ℕ) → p * p + d ≡ n → 3 * p + 2 < d → d ≤ 5 * p + 6 → p + 2 ≡ nearest_root n
after_2 n p d e l h = let s = sq_add p 2 in nearest_is n (p + 2) (omega arith) (omega arith) (omega arith)

pub after_3 : (n p d : ℕ) → p * p + d ≡ n → 5 * p + 6 < d → d ≤ 7 * p + 12 → p + 3 ≡ nearest_root n
after_3 n p d e l h = let s = sq_add p 3 in nearest_is n (p + 3) (omega arith) (omega arith) (omega arith)

-- the pattern that a p was taken from, where the number after p is the root's
pub pattern_is : (b low p r : ℕ) → b < 2 ^ 64 → p ≡ (b + (2 ^ 64 - (low + 1))) % 2 ^ 64 → p < 2 ^ 53 → low + 2 ^ 53 < 2 ^ 64 → p + 1 ≡ r → b ≡ low + r
pattern_is b low p r f w l h e = omega arith
