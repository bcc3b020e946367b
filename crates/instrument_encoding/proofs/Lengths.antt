-- How long a file's pieces are, and the file: 88 bytes, 44 for each key and 44 for each string. Assumes nothing.
use Rattle.std.specs.Prelude.{◌≡◌, refl, true}
use Rattle.std.proofs.Common.{sym, ◌∙◌, add-one, length-append}
use Rattle.std.proofs.Math.Path.{ap}
use Prim.Native.Nat.{ℕ, zero, suc, ◌+◌, ◌*◌}
use native.Mathlib.Omega.{arith}
use Rattle.std.proofs.Math.ListN.{length}
use Rattle.little_endian.specs.Numbers.{le16, le32, le64, le_f64}
use Rattle.instrument_fields.specs.declared.Common.{Common}
use Rattle.instrument_fields.specs.declared.KeyDesign.{KeyDesign}
use Rattle.instrument_fields.specs.declared.LoopDesign.{LoopDesign}
use Rattle.instrument.specs.declared.Instrument.{Instrument}
use Rattle.counting.specs.Below.{sum_below, gather}
use Rattle.counting.specs.Laws.{sum_same, length_gather}
use Rattle.instrument.specs.Valid.{key_at, string_at, string_sum, valid}
use Rattle.instrument.specs.ValidLaws.{string_sum_none, string_sum_more, strings_counted}
use Rattle.instrument_encoding.specs.Encode.{common_bytes, string_bytes, four_bytes, head_bytes, key_bytes, section_bytes, encode}
use Rattle.instrument_encoding.specs.Placed.{packed_length}

pub common_length : (c : Common) → length (common_bytes c) ≡ 76
unfolding common_bytes le_f64 le64 le32 le16
common_length c = refl

pub head_length : (k : KeyDesign) → length (head_bytes k) ≡ 36
unfolding head_bytes four_bytes le_f64 le64 le32 le16
head_length k = refl

pub string_length : (s : LoopDesign) → length (string_bytes s) ≡ 44
unfolding string_bytes le_f64 le64 le32 le16
string_length s = refl

pub strings_length : (s : ℕ → LoopDesign) (n : ℕ) → length (gather n (λ j. string_bytes (s j))) ≡ 44 * n
strings_length s n = length_gather (λ j. string_bytes (s j)) (λ j. 44) (λ j. string_length (s j)) n ∙ sum_same n 44

pub key_length : (k : KeyDesign) (s : ℕ → LoopDesign) → length (key_bytes k s) ≡ 36 + 44 * k.strings
unfolding key_bytes
key_length k s =
    let tail = gather k.strings (λ j. string_bytes (s j)) in
    let a = length-append (head_bytes k) tail in
    let b = head_length k in
    let c = strings_length s k.strings in
    omega arith

module _ (i : Instrument) where
  pub section_length : (k : ℕ) → length (section_bytes i (suc k)) ≡ 36 + 44 * (key_at i.keys k).strings
  unfolding section_bytes
  section_length k = key_length (key_at i.keys k) (λ j. string_at i.strings (string_sum i.keys k + j))

  -- the common section and k keys
  pub sections_length : (k : ℕ) → sum_below (suc k) (λ j. length (section_bytes i j)) ≡ 76 + 36 * k + 44 * string_sum i.keys k
  unfolding sum_below section_bytes
  sections_length zero = let c = common_length i.common in let e = string_sum_none i.keys in omega arith
  sections_length (suc k) =
      let a = sections_length k in
      let b = section_length k in
      let e = ap (string_sum i.keys) (sym (add-one k)) ∙ string_sum_more i.keys k in
      omega arith

  -- THE LAW: the length of the file of an instrument that passes refusal 7's test
  pub encode_length : valid i ≡ true → length (encode i) ≡ 88 + 44 * i.key_count + 44 * i.string_count
  unfolding encode
  encode_length v =
      let n = i.key_count in
      let a = packed_length (n + 1) (section_bytes i) in
      let b = ap (λ (x : ℕ). sum_below x (λ j. length (section_bytes i j))) (add-one n) ∙ sections_length n in
      let e = strings_counted i v in
      omega arith
