-- For each accepted file, encoding what was read gives the same bytes. Assumes nothing.
use Rattle.std.specs.Prelude.{◌≡◌, List, ◌++◌, length}
use Rattle.std.proofs.Common.{sym, ◌∙◌, add-one}
use Rattle.std.proofs.Math.Path.{ap}
use Prim.Native.Nat.{ℕ, zero, suc, ◌+◌, ◌-◌, ◌*◌, ◌<◌}
use native.Mathlib.Omega.{arith}
use borrow.Author.Tests.{eqb-true}
use Rattle.little_endian.specs.Numbers.{u32_at}
use Rattle.little_endian.specs.Bytes.{Bytes, bytes_part}
use Rattle.instrument_fields.specs.declared.KeyDesign.{KeyDesign}
use Rattle.instrument_fields.specs.declared.LoopDesign.{LoopDesign}
use Rattle.counting.specs.Every.{holds}
use Rattle.instrument_fields.specs.Fields.{key_of}
use Rattle.instrument_fields.specs.Unused.{no_key, no_string}
use Rattle.instrument.specs.declared.Instrument.{Instrument}
use Rattle.counting.specs.Below.{sum_below, gather, pad}
use Rattle.counting.specs.Laws.{all_at, sum_within, gather_cong, get_d_tabulate, get_d_gather, pad_first}
use Rattle.instrument_file.specs.File.{offset_of, length_of, section, key_section, measured_key, measured, loop_in, keys_in, strings_in, instrument_of, accepted, read_of}
use Rattle.instrument_file.specs.FileLaws.{sections_low, count_in, run_in, length_run, strings_length, key_in_lem, sum_in, fielded_key_lem}
use Rattle.instrument.specs.Valid.{string_at, past_string, string_sum}
use Rattle.instrument_encoding.specs.Encode.{string_bytes, head_bytes, key_bytes, section_bytes, encode}
use Rattle.instrument_encoding.specs.Chain.{packed_cong, repacked}
use Rattle.instrument_encoding.specs.Sections.{common_part, key_part}
use Rattle.instrument_encoding.specs.Accepted.{Accepts, accepts, common_fielded}

-- string j of key k, in the record's list
string_in_lem : (f : List ℕ) (n k j : ℕ) → k < n → j < count_in f k → string_at (pad 32 no_string (strings_in f n)) (sum_below k (count_in f) + j) ≡ loop_in (key_section f k) j
unfolding strings_in
string_in_lem f n k j h l =
    let w = sum_within (count_in f) n k h in
    let len = strings_length f n in
    pad_first 32 no_string past_string (gather n (run_in f)) (sum_below k (count_in f) + j) (omega arith)
    ∙ get_d_gather (run_in f) (count_in f) (length_run f) n k j past_string h l
    ∙ get_d_tabulate (count_in f k) (loop_in (key_section f k)) j past_string l

key_bytes_cong : (k : KeyDesign) (s t : ℕ → LoopDesign) → ((j : ℕ) → j < k.strings → s j ≡ t j) → key_bytes k s ≡ key_bytes k t
unfolding key_bytes
key_bytes_cong k s t h = ap (λ (l : List ℕ). head_bytes k ++ l) (gather_cong k.strings (λ j. string_bytes (s j)) (λ j. string_bytes (t j)) (λ j l. ap string_bytes (h j l)))

module _ (f : List ℕ) (ok : Bytes f) (n : ℕ) (i : Instrument) (a : Accepts f n i) where
  abbrev keys : List KeyDesign
  keys = pad 16 no_key (keys_in f n)

  abbrev strings : List LoopDesign
  strings = pad 32 no_string (strings_in f n)

  bytes_of : (k : ℕ) → Bytes (section f k)
  unfolding section
  bytes_of k = bytes_part (offset_of f k) (length_of f k) f ok

  common_length : length (section f 0) ≡ 76
  unfolding measured
  common_length = eqb-true (length (section f 0)) 76 (holds _ a.measured 0)

  key_length : (k : ℕ) → k < n → length (key_section f k) ≡ 36 + 44 * count_in f k
  unfolding measured measured_key
  key_length k h =
      eqb-true (length (key_section f k)) (36 + 44 * count_in f k) (holds _ (all_at (λ k. measured_key (key_section f k)) n (holds _ a.measured 1) k h) 2)

  same_section : (k : ℕ) → k < n + 1 → section_bytes (instrument_of f n) k ≡ section f k
  unfolding section_bytes instrument_of key_of
  same_section zero h = common_part (section f 0) (bytes_of 0) common_length (common_fielded f n i a)
  same_section (suc k) h =
      let hk : k < n = omega arith in
      let b = key_section f k in
      let s : ℕ → LoopDesign = λ j. string_at strings (string_sum keys k + j) in
      ap (λ (x : KeyDesign). key_bytes x s) (key_in_lem f n k hk)
      ∙ key_bytes_cong (key_of b) s (loop_in b) (λ j l. ap (λ (x : ℕ). string_at strings (x + j)) (sum_in f n k (omega arith)) ∙ string_in_lem f n k j hk l)
      ∙ key_part b (bytes_of (k + 1)) (fielded_key_lem f n a.fielded k hk) (key_length k hk)
      ∙ ap (section f) (add-one k)

  rewritten : n + 1 ≡ u32_at f 0 → encode i ≡ f
  unfolding encode instrument_of
  rewritten e =
      ap encode (sym a.gives) ∙ packed_cong (n + 1) (section_bytes (instrument_of f n)) (section f) same_section ∙ repacked f n a.chained ok e

-- THE LAW: what is read from an accepted file is written as the same bytes
pub read_encode : (f : List ℕ) → Bytes f → (i : Instrument) → read_of f ≡ accepted i → encode i ≡ f
read_encode f ok i h =
    let a = accepts f i h in
    let low = sections_low f a.headed in
    rewritten f ok (u32_at f 0 - 1) i a (omega arith)
