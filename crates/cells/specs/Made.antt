-- An array made by a function of the index has at place k what the function gives of k, where no call changes the function.
use Rattle.std.specs.Prelude.{◌≡◌, ℕ, zero, suc, ◌+◌, ◌<◌, slice_index_or, List}
use Rattle.std.proofs.Common.{◌∙◌, arith, add-zero, zero-add}
use Rattle.std.specs.Array.{IsFromFnResult, IsFromFnResultFrom}
use denote.Param.Members.{Mut, Called}

module _ {F B : Type 0} {g : Mut F (ℕ × Unit {0}) B} {f : F} (ys : List B) (h : ℕ → B) (same : (k : ℕ) (y : B) (q : F) → Called g f (k, tt) y q → (q ≡ f) × (y ≡ h k)) where
  made_from : (i n : ℕ) → IsFromFnResultFrom g f ys i n → (k : ℕ) (d : B) → k < n → slice_index_or ys (i + k) d ≡ h (i + k)
  made_from i zero m k d l = let z : ⊥ = omega arith in absurd z
  made_from i (suc n) m zero d l =
      let here = same i m.1 m.0 m.3 in
      rw (add-zero i) (m.2.1 d ∙ here.1)
  made_from i (suc n) m (suc k) d l =
      let after = (same i m.1 m.0 m.3).0 in
      let e : i + suc k ≡ i + 1 + k = omega arith in
      rw e (made_from (i + 1) n (rw after at m.4) k d (omega arith))

  pub made_at : {n : ℕ} → IsFromFnResult g f ys n → (k : ℕ) (d : B) → k < n → slice_index_or ys k d ≡ h k
  made_at {n} m k d l = rw (zero-add k) at (made_from 0 n m.each k d l)
