-- A test of each number of a range, as the definitions have it. Assumes nothing.
use mathlib.Core.Path.{◌≡◌, refl, ap, ◌∙◌}
use mathlib.Core.Bool.{Bool, true, ◌&&◌}
use mathlib.Core.List.{List, [], ◌∷◌, ◌++◌}
use Prim.Native.Nat.{ℕ, zero, suc, ◌+◌}
use native.Mathlib.Omega.{arith}
use Rattle.std.specs.List.{list_all, range_with_len}
use Rattle.std.proofs.lemmas.List.Folds.{list_all-append}
use Rattle.counting.specs.Below.{all_below}
use mathlib.Core.Bool.{and-true}

range_more : (a n : ℕ) → range_with_len a (suc n) ≡ range_with_len a n ++ ((a + n) ∷ [])
range_more a zero = ap (λ (m : ℕ). m ∷ []) (omega arith)
range_more a (suc n) = ap (λ (l : List ℕ). a ∷ l) (range_more (a + 1) n ∙ ap (λ (m : ℕ). range_with_len (a + 1) n ++ (m ∷ [])) (omega arith))

pub all_in_range : (P : ℕ → Bool) (n : ℕ) → list_all P (range_with_len 0 n) ≡ all_below n P
unfolding all_below
all_in_range P zero = refl
all_in_range P (suc n) =
    ap (list_all P) (range_more 0 n)
    ∙ list_all-append P (range_with_len 0 n) ((0 + n) ∷ [])
    ∙ ap (λ (t : Bool). t && (P (0 + n) && true)) (all_in_range P n)
    ∙ ap (λ (t : Bool). all_below n P && t) (and-true (P (0 + n)) ∙ ap P (omega arith))
