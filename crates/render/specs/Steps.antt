-- "Its state at p is the one after samples 0 to p − 1": a run of n samples from position t on, of any state; what it leaves, what it lists, and its laws.
use Rattle.std.specs.Prelude.{◌≡◌, List, [], ◌∷◌, ◌++◌, Float}
use Rattle.std.proofs.Math.Path.{refl, ap}
use Rattle.std.proofs.Common.{sym, ◌∙◌, append_assoc, append-nil, add-zero, add-suc}
use Prim.Native.Nat.{ℕ, zero, suc, ◌+◌, ◌≤◌, ◌<◌}
use Rattle.std.proofs.Math.Nat.{add_assoc}
use native.Mathlib.Omega.{arith}
use lib.ListN.{length, length-append}
use Rattle.std.proofs.lemmas.List.Edits.{sets}

module _ {S : Type 0} where
  -- the state after n samples from t on
  unfoldable pub state_after : (ℕ → S → S) → ℕ → ℕ → S → S
  state_after next t zero s = s
  state_after next t (suc n) s = next (t + n) (state_after next t n s)

  -- what g lists of each of them, one after the other
  unfoldable pub values_of : (ℕ → S → S) → (ℕ → S → List Float) → ℕ → ℕ → S → List Float
  values_of next g t zero s = []
  values_of next g t (suc n) s = values_of next g t n s ++ g (t + n) (state_after next t n s)

  module _ (next : ℕ → S → S) where
    -- m samples and k more are m + k
    pub run_add : (t m k : ℕ) (s : S) → state_after next t (m + k) s ≡ state_after next (t + m) k (state_after next t m s)
    unfolding state_after
    run_add t m zero s = rw (add-zero m)
    run_add t m (suc k) s = rw (add-suc m k, run_add t m k s, add_assoc t m k)

    pub values_add : (g : ℕ → S → List Float) (t m k : ℕ) (s : S)
        → values_of next g t (m + k) s ≡ values_of next g t m s ++ values_of next g (t + m) k (state_after next t m s)
    unfolding values_of
    values_add g t m zero s = rw (add-zero m, append-nil)
    values_add g t m (suc k) s = rw (add-suc m k, values_add g t m k s, run_add t m k s, add_assoc t m k, append_assoc)

    -- one value a sample
    pub values_length : (g : ℕ → S → Float) (t n : ℕ) (s : S) → length (values_of next (λ u x. g u x ∷ []) t n s) ≡ n
    unfolding values_of
    values_length g t zero s = refl
    values_length g t (suc n) s =
        length-append (values_of next (λ u x. g u x ∷ []) t n s) (g (t + n) (state_after next t n s) ∷ []) ∙ omega (arith, values_length g t n s)

    -- at most one value a sample
    pub values_few : (g : ℕ → S → List Float) (t n : ℕ) (s : S) → ((u : ℕ) (x : S) → length (g u x) ≤ 1) → length (values_of next g t n s) ≤ n
    unfolding values_of
    values_few g t zero s h = omega arith
    values_few g t (suc n) s h =
        omega (arith, length-append (values_of next g t n s) (g (t + n) (state_after next t n s)), values_few g t n s h, h (t + n) (state_after next t n s))

    -- what each sample keeps, the run keeps
    pub run_keeps : {B : Type 0} (q : S → B) (t n : ℕ) (s : S) → ((u : ℕ) (x : S) → q (next u x) ≡ q x) → q (state_after next t n s) ≡ q s
    unfolding state_after
    run_keeps q t zero s h = refl
    run_keeps q t (suc n) s h = h (t + n) (state_after next t n s) ∙ run_keeps q t n s h

  -- rules that agree at each position of the run give the same run
  module _ (next next' : ℕ → S → S) (t : ℕ) (s : S) where
    pub run_same : (n : ℕ) → ((u : ℕ) (x : S) → t ≤ u → u < t + n → next u x ≡ next' u x) → state_after next t n s ≡ state_after next' t n s
    unfolding state_after
    run_same zero h = refl
    run_same (suc n) h =
        ap (λ (x : S). next (t + n) x) (run_same n (λ u x a b. h u x a (omega arith))) ∙ h (t + n) (state_after next' t n s) (omega arith) (omega arith)

    -- what is listed of each sample alike is the same list, whatever the states are
    pub values_each : (g g' : ℕ → S → List Float) (s' : S) (n : ℕ)
        → ((k : ℕ) → k < n → g (t + k) (state_after next t k s) ≡ g' (t + k) (state_after next' t k s'))
        → values_of next g t n s ≡ values_of next' g' t n s'
    unfolding values_of
    values_each g g' s' zero h = refl
    values_each g g' s' (suc n) h = rw (values_each g g' s' n (λ k q. h k (omega arith)), h n (omega arith))

-- stores of a list are stores of its front, then of its rest
pub sets_append : (l : List Float) (i : ℕ) (vs ws : List Float) → sets l i (vs ++ ws) ≡ sets (sets l i vs) (i + length vs) ws
sets_append l i [] ws = ap (λ (k : ℕ). sets l k ws) (sym (add-zero i))
sets_append l i (v ∷ vs) ws =
    let e : suc i + length vs ≡ i + suc (length vs) = omega arith in
    sets_append (lib.ListN.set l i v) (suc i) vs ws ∙ ap (λ (k : ℕ). sets (sets (lib.ListN.set l i v) (suc i) vs) k ws) e
