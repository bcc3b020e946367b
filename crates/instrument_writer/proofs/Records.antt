-- The common section, a key and a string as the stores of `put_common`, `put_head`, `put_key` and `put_string` leave them. Assumes nothing.
use mathlib.Core.Path.{◌≡◌, refl, ap, ◌∙◌}
use mathlib.Core.Bool.{Bool, true, false, cond}
use Rattle.std.specs.Int.{from_bool}
use mathlib.Core.List.{List, ◌++◌}
use Prim.Native.Nat.{ℕ, ◌+◌}
use native.Mathlib.Omega.{arith}
use lib.Ieee.{Float}
use lib.ListN.{set}
use lib.Seq.{sets}
use Rattle.little_endian.specs.Numbers.{le16, le32, le_f64}
use Rattle.little_endian.specs.Stores.{stored_then}
use Rattle.counting.specs.Below.{gather}
use Rattle.instrument_fields.specs.declared.Common.{Common}
use Rattle.instrument_fields.specs.declared.KeyDesign.{KeyDesign}
use Rattle.instrument_fields.specs.declared.LoopDesign.{LoopDesign}
use Rattle.instrument_encoding.specs.Encode.{common_bytes, string_bytes, four_bytes, head_bytes, key_bytes}
use Rattle.instrument_encoding.proofs.Lengths.{head_length}
use Rattle.instrument_writer.proofs.Stored.{float_then, half_then, four_then, bytes_then}

-- the bytes of four floats
abbrev pub four : Float → Float → Float → Float → List ℕ
four x y z w = le_f64 x ++ (le_f64 y ++ (le_f64 z ++ le_f64 w))

module _ (l l₁ l₂ l₃ l₄ : List ℕ) (p : ℕ) where
  pub four_stored : (x y z w : Float) → l₁ ≡ sets l p (le_f64 x) → l₂ ≡ sets l₁ (p + 8) (le_f64 y)
      → l₃ ≡ sets l₂ (p + 16) (le_f64 z) → l₄ ≡ sets l₃ (p + 24) (le_f64 w) → l₄ ≡ sets l p (four x y z w)
  four_stored x y z w e₁ e₂ e₃ e₄ =
      float_then l l₁ l₄ (le_f64 y ++ (le_f64 z ++ le_f64 w)) p (p + 8) x refl e₁
      (float_then l₁ l₂ l₄ (le_f64 z ++ le_f64 w) (p + 8) (p + 16) y (omega arith) e₂
      (float_then l₂ l₃ l₄ (le_f64 w) (p + 16) (p + 24) z (omega arith) e₃ e₄))

  pub common_stored : (c : Common) → l₁ ≡ sets l p (four c.fs c.z c.hammer.mass c.hammer.stiffness)
      → l₂ ≡ sets l₁ (p + 32) (four c.hammer.eps c.hammer.tau c.yz c.damper.rho) → l₃ ≡ sets l₂ (p + 64) (le_f64 c.damper.ramp_s)
      → l₄ ≡ sets l₃ (p + 72) (le32 c.hammer.exponent) → l₄ ≡ sets l p (common_bytes c)
  unfolding common_bytes
  common_stored c e₁ e₂ e₃ e₄ =
      let exponent = le32 c.hammer.exponent in
      let ramp = le_f64 c.damper.ramp_s ++ exponent in
      four_then l l₁ l₄ (le_f64 c.hammer.eps ++ (le_f64 c.hammer.tau ++ (le_f64 c.yz ++ (le_f64 c.damper.rho ++ ramp)))) p (p + 32)
      c.fs c.z c.hammer.mass c.hammer.stiffness refl e₁
      (four_then l₁ l₂ l₄ ramp (p + 32) (p + 64) c.hammer.eps c.hammer.tau c.yz c.damper.rho (omega arith) e₂
      (float_then l₂ l₃ l₄ exponent (p + 64) (p + 72) c.damper.ramp_s (omega arith) e₃ e₄))

  -- n and ap_count as the low 16 bits that are stored
  pub string_stored : (s : LoopDesign) (n count : ℕ) → le16 n ≡ le16 s.n → le16 count ≡ le16 s.ap_count
      → l₁ ≡ sets l p (le16 n) → l₂ ≡ sets l₁ (p + 2) (le16 count)
      → l₃ ≡ sets l₂ (p + 4) (four s.phi s.thiran_a s.ap_a s.loss_g) → l₄ ≡ sets l₃ (p + 36) (le_f64 s.loss_c) → l₄ ≡ sets l p (string_bytes s)
  unfolding string_bytes
  string_stored s n count en ec e₁ e₂ e₃ e₄ =
      let corner = le_f64 s.loss_c in
      let floats = le_f64 s.phi ++ (le_f64 s.thiran_a ++ (le_f64 s.ap_a ++ (le_f64 s.loss_g ++ corner))) in
      half_then l l₁ l₄ (le16 s.ap_count ++ floats) p (p + 2) s.n refl (e₁ ∙ ap (sets l p) en)
      (half_then l₁ l₂ l₄ floats (p + 2) (p + 4) s.ap_count (omega arith) (e₂ ∙ ap (sets l₁ (p + 2)) ec)
      (four_then l₂ l₃ l₄ corner (p + 4) (p + 36) s.phi s.thiran_a s.ap_a s.loss_g (omega arith) e₃ e₄))

  pub head_stored : (l₅ : List ℕ) (k : KeyDesign) (flag : ℕ) → flag ≡ cond k.has_damper 1 0 → l₁ ≡ set l p k.key
      → l₂ ≡ set l₁ (p + 1) flag → l₃ ≡ set l₂ (p + 2) k.strings
      → l₄ ≡ set l₃ (p + 3) 0 → l₅ ≡ sets l₄ (p + 4) (four k.weight k.damper_scale k.strike_ratio k.damper_ratio) → l₅ ≡ sets l p (head_bytes k)
  unfolding head_bytes four_bytes
  head_stored l₅ k flag e e₁ e₂ e₃ e₄ e₅ =
      bytes_then l l₁ l₂ l₃ l₄ l₅ (four k.weight k.damper_scale k.strike_ratio k.damper_ratio) p k.key (cond k.has_damper 1 0) k.strings 0
      e₁ (e₂ ∙ ap (set l₁ (p + 1)) e) e₃ e₄ e₅

pub flag_is : (b : Bool) → from_bool b ≡ cond b 1 0
flag_is true = refl
flag_is false = refl

pub key_stored : (l l₁ l₂ : List ℕ) (p : ℕ) (k : KeyDesign) (s : ℕ → LoopDesign) → l₁ ≡ sets l p (head_bytes k)
    → l₂ ≡ sets l₁ (p + 36) (gather k.strings (λ j. string_bytes (s j)))
    → l₂ ≡ sets l p (key_bytes k s)
unfolding key_bytes
key_stored l l₁ l₂ p k s = stored_then l l₁ l₂ (head_bytes k) (gather k.strings (λ j. string_bytes (s j))) p 36 (p + 36) (head_length k) refl
