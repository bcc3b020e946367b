-- The file that is written for an instrument that passes refusal 7's test is a list of bytes. Assumes nothing.
use Rattle.std.specs.Prelude.{◌≡◌, Bool, true, false, cond, List, ◌++◌, length, Float}
use Prim.Native.Nat.{ℕ, zero, suc, ◌+◌, ◌≤◌, ◌<◌}
use Rattle.std.proofs.Common.{le_refl}
use native.Mathlib.Omega.{arith}
use Rattle.little_endian.specs.Numbers.{le16, le32, le_f64}
use Rattle.little_endian.specs.Bytes.{Bytes, bytes_append, bytes_le16, bytes_le32, bytes_le_f64}
use Rattle.instrument_fields.specs.declared.Common.{Common}
use Rattle.instrument_fields.specs.declared.KeyDesign.{KeyDesign}
use Rattle.instrument_fields.specs.declared.LoopDesign.{LoopDesign}
use Rattle.instrument.specs.declared.Instrument.{Instrument}
use Rattle.counting.specs.Below.{gather}
use Rattle.instrument.specs.Valid.{key_at, string_at, string_sum, valid}
use Rattle.instrument.specs.ValidLaws.{few_strings_lem, valid_counts, keys_ranges}
use Rattle.instrument_encoding.specs.Encode.{common_bytes, string_bytes, four_bytes, head_bytes, key_bytes, section_bytes, section_start, packed, encode}
use Rattle.instrument_encoding.specs.Typed.{Typed}

-- `Bytes`, by which a list can be found
record Written (b : List ℕ) : Type 0 where
  pub bytes : Bytes b

module _ {x y : List ℕ} where
  then : Written x → Written y → Written (x ++ y)
  then h k = record { bytes = bytes_append x y h.bytes k.bytes }

word16 : (x : ℕ) → Written (le16 x)
word16 x = record { bytes = bytes_le16 x }

word32 : (x : ℕ) → Written (le32 x)
word32 x = record { bytes = bytes_le32 x }

float : (x : Float) → Written (le_f64 x)
float x = record { bytes = bytes_le_f64 x }

all_written : (n : ℕ) (G : ℕ → List ℕ) → ((k : ℕ) → k < n → Written (G k)) → Written (gather n G)
unfolding gather
all_written zero G h = record { bytes = λ p. omega arith }
all_written (suc n) G h = then (all_written n G (λ k l. h k (omega arith))) (h n (le_refl (suc n)))

common_bytes_lem : (c : Common) → Written (common_bytes c)
unfolding common_bytes
common_bytes_lem c =
    then (float c.fs) (then (float c.z) (then (float c.hammer.mass) (then (float c.hammer.stiffness) (then (float c.hammer.eps) (then (float c.hammer.tau)
    (then (float c.yz) (then (float c.damper.rho) (then (float c.damper.ramp_s) (word32 c.hammer.exponent)))))))))

string_bytes_lem : (s : LoopDesign) → Written (string_bytes s)
unfolding string_bytes
string_bytes_lem s =
    then (word16 s.n) (then (word16 s.ap_count) (then (float s.phi) (then (float s.thiran_a) (then (float s.ap_a) (then (float s.loss_g) (float s.loss_c))))))

flag_byte : (d : Bool) → cond d 1 0 < 256
flag_byte true = omega arith
flag_byte false = omega arith

module _ (k : KeyDesign) (number : k.key < 256) (few : k.strings ≤ 3) where
  four_bytes_lem : Bytes (four_bytes k)
  unfolding four_bytes
  four_bytes_lem zero = number
  four_bytes_lem (suc zero) = flag_byte k.has_damper
  four_bytes_lem (suc (suc zero)) = omega arith
  four_bytes_lem (suc (suc (suc zero))) = omega arith
  four_bytes_lem (suc (suc (suc (suc p)))) = omega arith

  key_bytes_lem : (s : ℕ → LoopDesign) → Written (key_bytes k s)
  unfolding key_bytes head_bytes
  key_bytes_lem s =
      let four : Written (four_bytes k) = record { bytes = four_bytes_lem } in
      then
      (then four (then (float k.weight) (then (float k.damper_scale) (then (float k.strike_ratio) (float k.damper_ratio)))))
      (all_written k.strings (λ j. string_bytes (s j)) (λ j l. string_bytes_lem (s j)))

module _ (i : Instrument) (t : Typed i) (v : valid i ≡ true) where
  section_bytes_lem : (k : ℕ) → k < i.key_count + 1 → Written (section_bytes i k)
  unfolding section_bytes
  section_bytes_lem zero h = common_bytes_lem i.common
  section_bytes_lem (suc k) h =
      let n = (valid_counts i v).few_keys in
      key_bytes_lem (key_at i.keys k) (t.key k (omega arith)).key (few_strings_lem i.keys i.key_count (keys_ranges i v) k (omega arith)) (λ j. string_at i.strings (string_sum i.keys k + j))

  pub bytes_encode : Bytes (encode i)
  unfolding encode packed
  bytes_encode =
      let d = i.key_count + 1 in
      let S = section_bytes i in
      let pairs = all_written d (λ k. le32 (section_start d S k) ++ le32 (length (S k))) (λ k l. then (word32 (section_start d S k)) (word32 (length (S k)))) in
      (then (word32 d) (then pairs (all_written d S section_bytes_lem))).bytes
