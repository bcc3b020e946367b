-- What is read from a section in range is written as the section's bytes. Assumes nothing.
use Rattle.std.specs.Prelude.{◌≡◌, refl, true, cond, eqb, drop}
use Rattle.std.proofs.Common.{sym, ◌∙◌, arith}
use Rattle.std.proofs.Math.Path.{ap}
use mathlib.Core.List.{List, [], ◌∷◌}
use Prim.Native.Nat.{ℕ, zero, suc, ◌+◌, ◌*◌, ◌≤◌, ◌<◌}
use Rattle.std.proofs.Math.ListN.{length, take, get_or, length-drop}
use Rattle.std.proofs.Math.Seq.{length-take-le, take_all}
use borrow.Author.Tests.{leb-true, eqb-true}
use Rattle.little_endian.specs.Numbers.{byte_at}
use Rattle.little_endian.specs.Bytes.{Bytes, bytes_part, part_next, le16_part, le32_part, f64_part}
use Rattle.counting.specs.Every.{holds}
use Rattle.float.specs.Numbers.{le_no_nan}
use Rattle.instrument_fields.specs.Fields.{common_of, hammer_of, damper_of, key_of, loop_of}
use Rattle.instrument_fields.specs.Ranges.{hammer_in_range, common_in_range, key_in_range, string_in_range}
use Rattle.counting.specs.Below.{gather}
use Rattle.counting.specs.Laws.{all_at, gather_cong}
use Rattle.instrument_file.specs.File.{loop_in, fielded_key}
use Rattle.instrument_encoding.specs.Encode.{common_bytes, string_bytes, four_bytes, head_bytes, key_bytes}
use Rattle.instrument_encoding.specs.Parts.{even_pieces}
use Rattle.instrument_encoding.specs.InRange.{within_no_nan, between_no_nan}

module _ (b : List ℕ) (ok : Bytes b) where
  pub string_part : length b ≡ 44 → string_in_range (loop_of b) ≡ true → string_bytes (loop_of b) ≡ b
  unfolding string_bytes loop_of string_in_range
  string_part h k =
      part_next b 0 2 42 (le16_part b ok 0 (omega arith))
      (part_next b 2 2 40 (le16_part b ok 2 (omega arith))
      (part_next b 4 8 32 (f64_part b ok 4 (omega arith) (within_no_nan _ _ _ (holds _ k 3)))
      (part_next b 12 8 24 (f64_part b ok 12 (omega arith) (between_no_nan _ _ _ (holds _ k 4)))
      (part_next b 20 8 16 (f64_part b ok 20 (omega arith) (between_no_nan _ _ _ (holds _ k 5)))
      (part_next b 28 8 8 (f64_part b ok 28 (omega arith) (within_no_nan _ _ _ (holds _ k 6)))
      (f64_part b ok 36 (omega arith) (le_no_nan _ _ (holds _ k 7))))))))
      ∙ take_all 44 b (omega arith)

  pub common_part : length b ≡ 76 → common_in_range (common_of b) ≡ true → common_bytes (common_of b) ≡ b
  unfolding common_bytes common_of hammer_of damper_of common_in_range hammer_in_range
  common_part h k =
      let hammer = holds _ (holds _ k 2) in
      part_next b 0 8 68 (f64_part b ok 0 (omega arith) (within_no_nan _ _ _ (holds _ k 0)))
      (part_next b 8 8 60 (f64_part b ok 8 (omega arith) (within_no_nan _ _ _ (holds _ k 1)))
      (part_next b 16 8 52 (f64_part b ok 16 (omega arith) (within_no_nan _ _ _ (hammer 0)))
      (part_next b 24 8 44 (f64_part b ok 24 (omega arith) (within_no_nan _ _ _ (hammer 1)))
      (part_next b 32 8 36 (f64_part b ok 32 (omega arith) (within_no_nan _ _ _ (hammer 2)))
      (part_next b 40 8 28 (f64_part b ok 40 (omega arith) (within_no_nan _ _ _ (hammer 3)))
      (part_next b 48 8 20 (f64_part b ok 48 (omega arith) (within_no_nan _ _ _ (holds _ k 3)))
      (part_next b 56 8 12 (f64_part b ok 56 (omega arith) (within_no_nan _ _ _ (holds _ k 4)))
      (part_next b 64 8 4 (f64_part b ok 64 (omega arith) (within_no_nan _ _ _ (holds _ k 5)))
      (le32_part b ok 72 (omega arith))))))))))
      ∙ take_all 76 b (omega arith)

flag : (x : ℕ) → x ≤ 1 → cond (eqb x 1) 1 0 ≡ x
flag zero h = refl
flag (suc zero) h = refl
flag (suc (suc x)) h = absurd (omega arith)

four : (b : List ℕ) → 4 ≤ length b → get_or b 0 0 ∷ get_or b 1 0 ∷ get_or b 2 0 ∷ get_or b 3 0 ∷ [] ≡ take 4 b
four [] h = absurd (omega arith)
four (x ∷ []) h = absurd (omega arith)
four (x ∷ y ∷ []) h = absurd (omega arith)
four (x ∷ y ∷ z ∷ []) h = absurd (omega arith)
four (x ∷ y ∷ z ∷ w ∷ l) h = refl

module _ (b : List ℕ) (ok : Bytes b) (k : fielded_key b ≡ true) where
  four_part : 4 ≤ length b → four_bytes (key_of b) ≡ take 4 (drop 0 b)
  unfolding four_bytes key_of fielded_key
  four_part h =
      let d = leb-true (byte_at b 1) 1 (holds _ k 0) in
      let z = eqb-true (byte_at b 3) 0 (holds _ k 1) in
      ap (λ (x : ℕ). get_or b 0 0 ∷ x ∷ get_or b 2 0 ∷ 0 ∷ []) (flag (get_or b 1 0) d)
      ∙ ap (λ (x : ℕ). get_or b 0 0 ∷ get_or b 1 0 ∷ get_or b 2 0 ∷ x ∷ []) (sym z)
      ∙ four b h

  head_part : 36 ≤ length b → head_bytes (key_of b) ≡ take 36 (drop 0 b)
  unfolding head_bytes key_of fielded_key key_in_range
  head_part h =
      let s = holds _ (holds _ k 2) in
      part_next b 0 4 32 (four_part (omega arith))
      (part_next b 4 8 24 (f64_part b ok 4 (omega arith) (within_no_nan _ _ _ (s 2)))
      (part_next b 12 8 16 (f64_part b ok 12 (omega arith) (within_no_nan _ _ _ (s 3)))
      (part_next b 20 8 8 (f64_part b ok 20 (omega arith) (within_no_nan _ _ _ (s 4)))
      (f64_part b ok 28 (omega arith) (within_no_nan _ _ _ (s 5))))))

  pub key_part : length b ≡ 36 + 44 * byte_at b 2 → key_bytes (key_of b) (loop_in b) ≡ b
  unfolding key_bytes key_of loop_in fielded_key
  key_part h =
      let s = byte_at b 2 in
      let cut : ℕ → List ℕ = λ j. take 44 (drop (36 + 44 * j) b) in
      let size : (j : ℕ) → j < s → length (cut j) ≡ 44 = λ j l. length-take-le 44 (drop (36 + 44 * j) b) (let e = length-drop (36 + 44 * j) b in omega arith) in
      let strings : gather s (λ j. string_bytes (loop_in b j)) ≡ take (44 * s) (drop 36 b) =
      gather_cong s (λ j. string_bytes (loop_in b j)) cut
      (λ j l. string_part (cut j) (bytes_part (36 + 44 * j) 44 b ok) (size j l) (all_at (λ j. string_in_range (loop_in b j)) s (holds _ k 3) j l))
      ∙ even_pieces b 36 44 s in
      part_next b 0 36 (44 * s) (head_part (omega arith)) strings ∙ take_all (36 + 44 * s) b (omega arith)
