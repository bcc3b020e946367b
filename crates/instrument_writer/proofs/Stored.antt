-- What stores leave, piece behind piece: numbers, the four bytes of a key, the lists of a gathering. Each is
-- `stored_then` with the piece's length. Assumes nothing.
use mathlib.Core.Path.{◌≡◌, refl, sym, ap, ◌∙◌}
use mathlib.Core.List.{List, ◌∷◌, ◌++◌, append_assoc}
use Prim.Native.Nat.{ℕ, suc, ◌+◌, ◌*◌, ◌%◌, ◌/◌}
use native.Mathlib.Omega.{arith}
use lib.Ieee.{Float}
use lib.ListN.{length, set}
use lib.Seq.{sets}
use Rattle.little_endian.specs.Numbers.{le16, le32, le64, le_f64}
use Rattle.little_endian.specs.Stores.{stored_then, length_le16, length_le32, length_le_f64}
use Rattle.counting.specs.Below.{gather}
use Rattle.counting.specs.Laws.{gather_more}

-- a number past 16 bits is stored without them
pub low_half : (x : ℕ) → le16 (x % 65536) ≡ le16 x
unfolding le16
low_half x =
    let low : x % 65536 % 256 ≡ x % 256 = omega arith in
    let whole : x / 256 ≡ 256 * (x / 65536) + x % 65536 / 256 = omega arith in
    let high : x % 65536 / 256 % 256 ≡ x / 256 % 256 = let e = x % 65536 / 256 in let d = x / 65536 in rw whole (high_bits d e) in
    rw (low, high)
  where
    high_bits : (d e : ℕ) → e % 256 ≡ (256 * d + e) % 256
    high_bits d e = omega arith

four_length : (x y z w : Float) → length (le_f64 x ++ (le_f64 y ++ (le_f64 z ++ le_f64 w))) ≡ 32
unfolding le_f64 le64 le32 le16
four_length x y z w = refl

module _ (l l₁ l₂ ys : List ℕ) (a b : ℕ) where
  pub float_then : (x : Float) → b ≡ a + 8 → l₁ ≡ sets l a (le_f64 x) → l₂ ≡ sets l₁ b ys → l₂ ≡ sets l a (le_f64 x ++ ys)
  float_then x = stored_then l l₁ l₂ (le_f64 x) ys a 8 b (length_le_f64 x)

  pub word_then : (x : ℕ) → b ≡ a + 4 → l₁ ≡ sets l a (le32 x) → l₂ ≡ sets l₁ b ys → l₂ ≡ sets l a (le32 x ++ ys)
  word_then x = stored_then l l₁ l₂ (le32 x) ys a 4 b (length_le32 x)

  pub half_then : (x : ℕ) → b ≡ a + 2 → l₁ ≡ sets l a (le16 x) → l₂ ≡ sets l₁ b ys → l₂ ≡ sets l a (le16 x ++ ys)
  half_then x = stored_then l l₁ l₂ (le16 x) ys a 2 b (length_le16 x)

  -- four floats, and what is stored behind them
  pub four_then : (x y z w : Float) → b ≡ a + 32 → l₁ ≡ sets l a (le_f64 x ++ (le_f64 y ++ (le_f64 z ++ le_f64 w))) → l₂ ≡ sets l₁ b ys
      → l₂ ≡ sets l a (le_f64 x ++ (le_f64 y ++ (le_f64 z ++ (le_f64 w ++ ys))))
  four_then x y z w at e g =
      let last = le_f64 z ++ le_f64 w in
      let rest = le_f64 y ++ last in
      stored_then l l₁ l₂ (le_f64 x ++ rest) ys a 32 b (four_length x y z w) at e g
      ∙ ap (sets l a) (append_assoc (le_f64 x) rest ys)
      ∙ ap (λ (r : List ℕ). sets l a (le_f64 x ++ r)) (append_assoc (le_f64 y) last ys)
      ∙ ap (λ (r : List ℕ). sets l a (le_f64 x ++ (le_f64 y ++ r))) (append_assoc (le_f64 z) (le_f64 w) ys)

-- four bytes, and what is stored behind them
pub bytes_then : (l l₁ l₂ l₃ l₄ l₅ ys : List ℕ) (a x y z w : ℕ) → l₁ ≡ set l a x → l₂ ≡ set l₁ (a + 1) y
    → l₃ ≡ set l₂ (a + 2) z → l₄ ≡ set l₃ (a + 3) w → l₅ ≡ sets l₄ (a + 4) ys
    → l₅ ≡ sets l a (x ∷ y ∷ z ∷ w ∷ ys)
bytes_then l l₁ l₂ l₃ l₄ l₅ ys a x y z w e₁ e₂ e₃ e₄ e₅ =
    let n₁ : a + 1 ≡ suc a = omega arith in
    let n₂ : a + 2 ≡ suc (suc a) = omega arith in
    let n₃ : a + 3 ≡ suc (suc (suc a)) = omega arith in
    let n₄ : a + 4 ≡ suc (suc (suc (suc a))) = omega arith in
    rw (e₅, e₄, e₃, e₂, e₁, n₁, n₂, n₃, n₄)

-- list k behind the k before it
pub gathered_next : (l l₁ l₂ : List ℕ) (G : ℕ → List ℕ) (k n a b : ℕ) → length (gather k G) ≡ n → b ≡ a + n
    → l₁ ≡ sets l a (gather k G) → l₂ ≡ sets l₁ b (G k)
    → l₂ ≡ sets l a (gather (k + 1) G)
gathered_next l l₁ l₂ G k n a b size at e g = stored_then l l₁ l₂ (gather k G) (G k) a n b size at e g ∙ ap (sets l a) (sym (gather_more k G))
