-- Runs of stores, one behind the other, and past the end. Assumes nothing.
use Rattle.std.specs.Prelude.{◌≡◌, List, [], ◌∷◌, ◌++◌, Float, length, drop, set}
use Rattle.std.proofs.Math.Path.{refl}
use Rattle.std.proofs.Common.{ap, ◌∙◌, append-nil, add-zero}
use Prim.Native.Nat.{ℕ, suc, ◌+◌, ◌/◌, ◌%◌, ◌≤◌, ◌<◌}
use native.Mathlib.Omega.{arith}
use Rattle.std.specs.Float.{binary64}
use Rattle.std.specs.Float.Ieee.{to_bits}
use Rattle.std.proofs.lemmas.List.Edits.{sets, sets-eq}
use Rattle.std.proofs.Math.Seq.{set_out, drop-length}
use Rattle.little_endian.specs.Numbers.{le16, le32, le64, le_f64}

module _ {A : Type 0} where
  -- a run after a run
  pub sets_next : (l xs ys : List A) (a b : ℕ) → b ≡ a + length xs → sets (sets l a xs) b ys ≡ sets l a (xs ++ ys)
  sets_next l [] ys a b e = ap (λ (n : ℕ). sets l n ys) (e ∙ add-zero a)
  sets_next l (x ∷ xs) ys a b e = sets_next (set l a x) xs ys (suc a) b (e ∙ (omega arith))

  -- THE LAW of every writer: a piece of k elements stored, and what is stored behind it
  pub stored_then : (l l₁ l₂ xs ys : List A) (a k b : ℕ) → length xs ≡ k → b ≡ a + k → l₁ ≡ sets l a xs → l₂ ≡ sets l₁ b ys → l₂ ≡ sets l a (xs ++ ys)
  stored_then l l₁ l₂ xs ys a k b size at e g = g ∙ ap (λ (v : List A). sets v b ys) e ∙ sets_next l xs ys a b (omega arith)

  -- a run that is as long as the list is all of it afterwards
  pub sets_whole : (l vs : List A) → length vs ≡ length l → sets l 0 vs ≡ vs
  sets_whole l vs e =
      let n : 0 + length vs ≡ length l = omega arith in
      sets-eq vs l 0 (omega arith) ∙ ap (λ (n : ℕ). vs ++ drop n l) n ∙ ap (λ (r : List A). vs ++ r) (drop-length l) ∙ append-nil vs

  -- a run past the end
  pub sets_out : (l vs : List A) (a : ℕ) → length l ≤ a → sets l a vs ≡ l
  sets_out l [] a h = refl
  sets_out l (v ∷ vs) a h = ap (λ (m : List A). sets m (suc a) vs) (set_out l a v h) ∙ sets_out l vs (suc a) (omega arith)

-- ---- numbers: how many bytes they have, and their halves

module _ (l l₁ l₂ : List ℕ) (p x : ℕ) where
  pub stored_16 : x < 65536 → l₁ ≡ set l p (x % 256) → l₂ ≡ set l₁ (p + 1) (x / 256) → l₂ ≡ sets l p (le16 x)
  unfolding le16
  stored_16 h e g =
      let n : p + 1 ≡ suc p = omega arith in
      let high : x / 256 ≡ x / 256 % 256 = omega arith in
      g ∙ cc (e, n, high)

  pub stored_32 : l₁ ≡ sets l p (le16 (x % 65536)) → l₂ ≡ sets l₁ (p + 2) (le16 (x / 65536)) → l₂ ≡ sets l p (le32 x)
  unfolding le32
  stored_32 = stored_then l l₁ l₂ (le16 (x % 65536)) (le16 (x / 65536)) p 2 (p + 2) refl refl

  pub stored_64 : l₁ ≡ sets l p (le32 (x % 4294967296)) → l₂ ≡ sets l₁ (p + 4) (le32 (x / 4294967296)) → l₂ ≡ sets l p (le64 x)
  unfolding le64
  stored_64 = stored_then l l₁ l₂ (le32 (x % 4294967296)) (le32 (x / 4294967296)) p 4 (p + 4) refl refl

pub stored_f64 : (l l₁ : List ℕ) (p bits : ℕ) (x : Float) → bits ≡ to_bits binary64 x → l₁ ≡ sets l p (le64 bits) → l₁ ≡ sets l p (le_f64 x)
unfolding le_f64
stored_f64 l l₁ p bits x e g = g ∙ ap (λ (b : ℕ). sets l p (le64 b)) e

pub length_le16 : (x : ℕ) → length (le16 x) ≡ 2
unfolding le16
length_le16 x = refl

pub length_le32 : (x : ℕ) → length (le32 x) ≡ 4
unfolding le32 le16
length_le32 x = refl

pub length_le_f64 : (x : Float) → length (le_f64 x) ≡ 8
unfolding le_f64 le64 le32 le16
length_le_f64 x = refl
