-- Reading the file that is written for an instrument that passes refusal 7's test gives the instrument. Assumes nothing.
use Rattle.std.specs.Prelude.{◌≡◌, Bool, false, cond, drop}
use Rattle.std.proofs.Math.Path.{refl, sym, ap, subst}
use Rattle.std.proofs.Common.{◌∙◌, add-one}
use Rattle.std.proofs.Math.Bool.{true}
use mathlib.Core.List.{List, [], ◌++◌, append-nil}
use Prim.Native.Nat.{ℕ, zero, suc, ◌+◌, ◌-◌, ◌*◌, ◌≤◌, ◌<◌}
use native.Mathlib.Omega.{arith}
use Rattle.std.proofs.Math.Dec.{leb, eqb}
use Rattle.std.proofs.Math.ListN.{length, take}
use Rattle.std.proofs.Math.Seq.{take-append_seam}
use borrow.Author.Tests.{le-leb, le-ltb, eq-eqb}
use Rattle.little_endian.specs.Numbers.{byte_at, u32_at}
use Rattle.instrument_fields.specs.declared.KeyDesign.{KeyDesign}
use Rattle.instrument_fields.specs.declared.LoopDesign.{LoopDesign}
use Rattle.counting.specs.Every.{every, every_after}
use Rattle.instrument_fields.specs.Fields.{common_of, key_of, loop_of}
use Rattle.instrument_fields.specs.Ranges.{common_in_range, key_in_range, string_in_range}
use Rattle.instrument_fields.specs.Unused.{no_key, no_string, is_no_key, is_no_string}
use Rattle.instrument.specs.declared.Instrument.{Instrument}
use Rattle.counting.specs.Below.{all_below, sum_below, gather, tabulate, pad}
use Rattle.counting.specs.Laws.{all_build, sum_more, sum_bound, sum_same, length_tabulate, get_d_tabulate, tabulate_cong, gather_cong, gather_runs}
use Rattle.instrument_file.specs.File.{offset_of, length_of, section, key_section, headed, chained, linked, measured, measured_key, fielded, fielded_key, loop_in}
use Rattle.instrument_file.specs.File.{keys_in, strings_in, instrument_of, accepted, read_of}
use Rattle.instrument_file.specs.FileLaws.{count_in, run_in, keys_length, key_listed}
use Rattle.instrument.specs.Valid.{key_at, string_at, past_key, past_string, string_sum, keys_apart, keys_unused, strings_unused, valid}
use Rattle.instrument.specs.ValidLaws.{key_in_range_lem, some_strings, few_strings_lem, string_sum_within, common_ranges, valid_counts}
use Rattle.instrument.specs.ValidLaws.{keys_ranges, keys_distinct, keys_rest, strings_counted, string_ranges, strings_rest}
use Rattle.instrument_encoding.specs.Encode.{common_bytes, string_bytes, four_bytes, head_bytes, key_bytes, section_bytes, section_start, packed, encode}
use Rattle.instrument_encoding.specs.Typed.{FitKey, FitString, Typed}
use Rattle.instrument_encoding.specs.Parts.{all_from, pad_is}
use Rattle.instrument_encoding.specs.FieldsBack.{string_back, key_back, common_back, no_key_lem, no_string_lem}
use Rattle.instrument_encoding.proofs.Lengths.{common_length, head_length, string_length, key_length}
use Rattle.instrument_encoding.specs.Placed.{StandsAt, at_gather, at_later, packed_length, section_at, count_back, off_back, len_back}

-- ---- one key's section

flag_small : (d : Bool) → leb (cond d 1 0) 1 ≡ true
flag_small true = refl
flag_small false = refl

module _ (k : KeyDesign) (s : ℕ → LoopDesign) where
  abbrev tail : List ℕ
  tail = gather k.strings (λ j. string_bytes (s j))

  read_key : FitKey k → key_of (key_bytes k s) ≡ k
  unfolding key_bytes
  read_key t = key_back k tail t

  read_flag : leb (byte_at (key_bytes k s) 1) 1 ≡ true
  unfolding key_bytes head_bytes four_bytes
  read_flag = flag_small k.has_damper

  read_zero : eqb (byte_at (key_bytes k s) 3) 0 ≡ true
  unfolding key_bytes head_bytes four_bytes
  read_zero = refl

  read_string : (j : ℕ) → j < k.strings → FitString (s j) → string_in_range (s j) ≡ true → loop_in (key_bytes k s) j ≡ s j
  unfolding loop_in key_bytes
  read_string j h t q =
      let inner = at_gather (λ j. string_bytes (s j)) (λ j. 44) k.strings j [] (λ j. string_length (s j)) h in
      let bare : StandsAt tail (sum_below j (λ j. 44)) (string_bytes (s j)) =
      record { after = inner.after; is = ap (drop (sum_below j (λ j. 44))) (sym (append-nil tail)) ∙ inner.is } in
      let a = at_later (head_bytes k) tail (sum_below j (λ j. 44)) (36 + 44 * j) (string_bytes (s j)) (let l = head_length k in let m = sum_same j 44 in omega arith) bare in
      let cut : take 44 (string_bytes (s j) ++ a.after) ≡ string_bytes (s j) =
      ap (λ (n : ℕ). take n (string_bytes (s j) ++ a.after)) (sym (string_length (s j))) ∙ take-append_seam (string_bytes (s j)) a.after in
      ap (λ (l : List ℕ). loop_of (take 44 l)) a.is ∙ ap loop_of (cut ∙ sym (append-nil (string_bytes (s j)))) ∙ string_back (s j) [] t q

-- ---- the whole

module _ (i : Instrument) (t : Typed i) (v : valid i ≡ true) where
  abbrev n : ℕ
  n = i.key_count

  abbrev m : ℕ
  m = i.string_count

  abbrev parts : ℕ → List ℕ
  parts = section_bytes i

  abbrev f : List ℕ
  f = packed (n + 1) parts

  -- key k and its strings
  abbrev K : ℕ → KeyDesign
  K = key_at i.keys

  abbrev S : ℕ → ℕ → LoopDesign
  S k j = string_at i.strings (string_sum i.keys k + j)

  few : (k : ℕ) → k < n → (1 ≤ (K k).strings) × ((K k).strings ≤ 3)
  few k h = (some_strings i.keys n (keys_ranges i v) k h, few_strings_lem i.keys n (keys_ranges i v) k h)

  part_small : (k : ℕ) → k < n + 1 → length (parts k) ≤ 168
  unfolding section_bytes
  part_small zero h = let c = common_length i.common in omega arith
  part_small (suc k) h = let l = key_length (K k) (S k) in let q = few k (omega arith) in omega arith

  small : 4 + 8 * (n + 1) + sum_below (n + 1) (λ k. length (parts k)) < 4294967296
  small = let b = sum_bound (λ k. length (parts k)) (n + 1) 168 part_small in let c = valid_counts i v in omega arith

  offset : (k : ℕ) → k < n + 1 → offset_of f k ≡ section_start (n + 1) parts k
  offset = off_back (n + 1) parts small

  size : (k : ℕ) → k < n + 1 → length_of f k ≡ length (parts k)
  size = len_back (n + 1) parts small

  -- section k is what was written for it
  section_is : (k : ℕ) → k < n + 1 → section f k ≡ parts k
  unfolding section
  section_is k h =
      let p = section_at (n + 1) parts k h in
      ap (λ (x : ℕ). take (length_of f k) (drop x f)) (offset k h)
      ∙ ap (take (length_of f k)) p.is
      ∙ ap (λ (x : ℕ). take x (parts k ++ p.after)) (size k h)
      ∙ take-append_seam (parts k) p.after

  key_section_lem : (k : ℕ) → k < n → key_section f k ≡ key_bytes (K k) (S k)
  unfolding section_bytes
  key_section_lem k h = section_is (k + 1) (omega arith) ∙ ap parts (add-one k)

  common_is : common_of (section f 0) ≡ i.common
  unfolding section_bytes
  common_is = ap common_of (section_is 0 (omega arith) ∙ sym (append-nil (common_bytes i.common))) ∙ common_back i.common [] t.common (common_ranges i v)

  key_is : (k : ℕ) → k < n → key_of (key_section f k) ≡ K k
  key_is k h = let c = valid_counts i v in ap key_of (key_section_lem k h) ∙ read_key (K k) (S k) (t.key k (omega arith))

  count_is : (k : ℕ) → k < n → count_in f k ≡ (K k).strings
  unfolding key_of
  count_is k h = ap (λ (x : KeyDesign). x.strings) (key_is k h)

  within_strings : (k j : ℕ) → k < n → j < (K k).strings → string_sum i.keys k + j < m
  within_strings k j h l = let w = string_sum_within i.keys n k h in let e = strings_counted i v in omega arith

  string_is : (k j : ℕ) → k < n → j < (K k).strings → loop_in (key_section f k) j ≡ S k j
  string_is k j h l =
      let b = within_strings k j h l in
      let c = valid_counts i v in
      ap (λ (x : List ℕ). loop_in x j) (key_section_lem k h)
      ∙ read_string (K k) (S k) j l (t.string (string_sum i.keys k + j) (omega arith)) (string_ranges i v (string_sum i.keys k + j) b)

  -- ---- the tests

  sections_are : u32_at f 0 ≡ n + 1
  sections_are = count_back (n + 1) parts small

  file_length : length f ≡ 4 + 8 * (n + 1) + sum_below (n + 1) (λ k. length (parts k))
  file_length = packed_length (n + 1) parts

  is_headed : headed f ≡ true
  unfolding headed every every_after
  is_headed =
      let c = valid_counts i v in
      let l = file_length in
      let e = sections_are in
      rw (le-leb 4 (length f) (omega arith), le-leb 2 (u32_at f 0) (omega arith), le-leb (u32_at f 0) 17 (omega arith), le-leb (4 + 8 * u32_at f 0) (length f) (omega arith))

  is_linked : (k : ℕ) → k < n → linked f k ≡ true
  unfolding linked section_start
  is_linked k h =
      let a = offset k (omega arith) in
      let b = offset (k + 1) (omega arith) in
      let c = size k (omega arith) in
      let e = sum_more (λ k. length (parts k)) k in
      eq-eqb (offset_of f (k + 1)) (offset_of f k + length_of f k) (omega arith)

  chain_first : offset_of f 0 ≡ 4 + 8 * (n + 1)
  unfolding section_start sum_below
  chain_first = let a = offset 0 (omega arith) in omega arith

  chain_last : offset_of f n + length_of f n ≡ length f
  unfolding section_start
  chain_last =
      let a = offset n (omega arith) in
      let c = size n (omega arith) in
      let e = sum_more (λ k. length (parts k)) n in
      let l = file_length in
      omega arith

  is_chained : chained f n ≡ true
  unfolding chained every every_after
  is_chained =
      rw (eq-eqb (offset_of f 0) (4 + 8 * (n + 1)) chain_first, all_build n (linked f) is_linked, eq-eqb (offset_of f n + length_of f n) (length f) chain_last)

  key_measured : (k : ℕ) → k < n → measured_key (key_section f k) ≡ true
  unfolding measured_key every every_after
  key_measured k h =
      let q = few k h in
      let e = count_is k h in
      let l = ap length (key_section_lem k h) ∙ key_length (K k) (S k) in
      rw (
        le-leb 1 (count_in f k) (omega arith),
        le-leb (count_in f k) 3 (omega arith),
        eq-eqb (length (key_section f k)) (36 + 44 * count_in f k) (omega arith),
      )

  is_measured : measured f n ≡ true
  unfolding measured every every_after section_bytes
  is_measured =
      let l : length (section f 0) ≡ 76 = ap length (section_is 0 (omega arith)) ∙ common_length i.common in
      rw (eq-eqb (length (section f 0)) 76 l, all_build n (λ k. measured_key (key_section f k)) key_measured)

  key_fielded : (k : ℕ) → k < n → fielded_key (key_section f k) ≡ true
  unfolding fielded_key every every_after
  key_fielded k h =
      let b = key_section f k in
      let e = key_section_lem k h in
      let a0 : leb (byte_at b 1) 1 ≡ true = ap (λ (l : List ℕ). leb (byte_at l 1) 1) e ∙ read_flag (K k) (S k) in
      let a1 : eqb (byte_at b 3) 0 ≡ true = ap (λ (l : List ℕ). eqb (byte_at l 3) 0) e ∙ read_zero (K k) (S k) in
      let a2 : key_in_range (key_of b) ≡ true = ap key_in_range (key_is k h) ∙ key_in_range_lem i.keys n (keys_ranges i v) k h in
      let a3 : all_below (count_in f k) (λ j. string_in_range (loop_in b j)) ≡ true =
      all_build (count_in f k) (λ j. string_in_range (loop_in b j))
      (λ j l. let q = subst (λ (x : ℕ). j < x) (count_is k h) l in
      ap string_in_range (string_is k j h q) ∙ string_ranges i v (string_sum i.keys k + j) (within_strings k j h q)) in
      rw (a0, a1, a2, a3)

  is_fielded : fielded f n ≡ true
  unfolding fielded every every_after
  is_fielded =
      let a : common_in_range (common_of (section f 0)) ≡ true = ap common_in_range common_is ∙ common_ranges i v in
      rw (a, all_build n (λ k. fielded_key (key_section f k)) key_fielded)

  -- ---- the record

  unused_key : (k : ℕ) → n ≤ k → k < 16 → K k ≡ no_key
  unfolding keys_unused
  unused_key k h l = no_key_lem (K k) (t.key k l) (all_from (λ k. is_no_key (K k)) 16 n (keys_rest i v) k h l)

  keys_same : pad 16 no_key (keys_in f n) ≡ i.keys
  keys_same =
      let l = keys_length f n in
      let c = valid_counts i v in
      pad_is 16 no_key past_key (keys_in f n) i.keys (omega arith) t.keys_long
      (λ k h. key_listed f n k (omega arith) ∙ key_is k (omega arith))
      (λ k h. unused_key k (omega arith))

  abbrev run : List LoopDesign
  run = tabulate m (string_at i.strings)

  run_length : length run ≡ m
  run_length = length_tabulate m (string_at i.strings)

  strings_list : strings_in f n ≡ run
  unfolding strings_in string_sum
  strings_list =
      gather_cong n (run_in f) (λ k. tabulate (K k).strings (S k))
      (λ k h. ap (λ (x : ℕ). tabulate x (loop_in (key_section f k))) (count_is k h)
      ∙ tabulate_cong (K k).strings (loop_in (key_section f k)) (S k) (λ j l. string_is k j h l))
      ∙ gather_runs n (λ k. (K k).strings) (string_at i.strings)
      ∙ ap (λ (x : ℕ). tabulate x (string_at i.strings)) (strings_counted i v)

  unused_string : (j : ℕ) → m ≤ j → j < 32 → string_at i.strings j ≡ no_string
  unfolding strings_unused
  unused_string j h l =
      no_string_lem (string_at i.strings j) (t.string j l) (all_from (λ j. is_no_string (string_at i.strings j)) 32 m (strings_rest i v) j h l)

  strings_same : pad 32 no_string (strings_in f n) ≡ i.strings
  strings_same =
      let l = run_length in
      let c = valid_counts i v in
      ap (pad 32 no_string) strings_list
      ∙ pad_is 32 no_string past_string run i.strings (omega arith) t.strings_long
      (λ j h. get_d_tabulate m (string_at i.strings) j past_string (omega arith))
      (λ j h. unused_string j (omega arith))

  total : string_sum (pad 16 no_key (keys_in f n)) n ≡ m
  total = ap (λ (l : List KeyDesign). string_sum l n) keys_same ∙ strings_counted i v

  record_same : instrument_of f n ≡ i
  unfolding instrument_of
  record_same = λ x. record { common = common_is x; key_count = n; string_count = total x; keys = keys_same x; strings = strings_same x }

  reread : read_of f ≡ accepted i
  unfolding read_of instrument_of
  reread =
      let d : u32_at f 0 - 1 ≡ n = omega (arith, sections_are) in
      let few = le-ltb 32 (string_sum (pad 16 no_key (keys_in f n)) n) (omega (arith, total, (valid_counts i v).few_strings)) in
      let apart : keys_apart (pad 16 no_key (keys_in f n)) n ≡ true = ap (λ (l : List KeyDesign). keys_apart l n) keys_same ∙ keys_distinct i v in
      rw (d, is_headed, is_chained, is_measured, is_fielded, few, apart) (ap accepted record_same)

-- THE LAW: reading what is written for an instrument that passes the test gives it
pub encode_read : (i : Instrument) → Typed i → valid i ≡ true → read_of (encode i) ≡ accepted i
unfolding encode
encode_read i t v = reread i t v
