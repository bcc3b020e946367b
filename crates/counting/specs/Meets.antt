-- Document 01, "Numbers a call may give": what a call that may refuse promises. Its number is by equation; where it
-- is not 0, what a refusal leaves; where it is 0, what the accepted call gives. Assumes nothing.
use Rattle.std.specs.Prelude.{◌≡◌, refl, ℕ, zero, suc}
use Rattle.std.proofs.Common.{sym, ◌∙◌, subst, arith}

pub record Meets (number : ℕ) (refused : ℕ → Type 0) (accepted : Type 0) : Type 0 where
  pub refuses : (number ≡ 0 → ⊥) → refused number
  pub accepts : number ≡ 0 → accepted

-- a call that found n, its number, keeps its promise where it leaves what n asks, or gives what 0 asks
module _ {number : ℕ} {refused : ℕ → Type 0} {accepted : Type 0} (n : ℕ) (e : n ≡ number) where
  pub meets_refused : (n ≡ 0 → ⊥) → refused n → Meets number refused accepted
  meets_refused h r = record { refuses = λ x. subst refused e r; accepts = λ z. absurd (h (e ∙ z)) }

  pub meets_accepted : n ≡ 0 → accepted → Meets number refused accepted
  meets_accepted z a = record { refuses = λ h. absurd (h (sym e ∙ z)); accepts = λ x. a }

-- two calls with one number: both are refused, or both are accepted
pub meets_both : {R R' : ℕ → Type 0} {A A' P : Type 0} (n n' : ℕ) → Meets n R A → Meets n' R' A' → n ≡ n'
    → (n ≡ n' → R n → R' n' → P) → (n ≡ 0 → A → A' → P) → P
meets_both zero n' h h' e refuses accepts = accepts refl (h.accepts refl) (h'.accepts (sym e))
meets_both (suc n) n' h h' e refuses accepts = refuses e (h.refuses (λ z. omega arith)) (h'.refuses (λ z. omega (arith, z, e)))
