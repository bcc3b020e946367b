-- The record that a file gives, place by place. Assumes nothing.
use Rattle.std.specs.Prelude.{◌≡◌, refl, true, List, ℕ, ◌≤◌, ◌<◌, length, get_or, Result, Ok, Err}
use Rattle.std.proofs.Common.{sym, ◌∙◌, subst, arith}
use Rattle.std.proofs.Math.Path.{ap}
use borrow.Author.Tests.{leb-true}
use Rattle.little_endian.specs.Numbers.{byte_at, u32_at}
use Rattle.instrument_fields.specs.declared.KeyDesign.{KeyDesign}
use Rattle.instrument_fields.specs.declared.LoopDesign.{LoopDesign}
use Rattle.counting.specs.Every.{holds}
use Rattle.instrument_fields.specs.Fields.{key_of}
use Rattle.instrument_fields.specs.Ranges.{key_in_range}
use Rattle.instrument_fields.specs.Unused.{no_key}
use Rattle.counting.specs.Below.{sum_below, tabulate, pad}
use Rattle.counting.specs.Laws.{all_at, all_build, sum_cong, length_tabulate, get_d_tabulate, length_gather, pad_first}
use Rattle.refusal.specs.declared.Refusal.{Refusal}
use Rattle.refusal.specs.Refusal.{number_in, number_not_zero}
use Rattle.instrument.specs.declared.Instrument.{Instrument}
use Rattle.instrument_file.specs.File.{accepted, instrument_in, headed, key_section, loop_in, fielded_key, fielded, keys_in, strings_in}
use Rattle.instrument.specs.Valid.{past_key, key_at, keys_in_range, string_sum}

-- an answer that refuses nothing is that of an accepted file
pub accepted_in : (a : Result Instrument Refusal) → number_in a ≡ 0 → a ≡ accepted (instrument_in a)
accepted_in (Ok i) z = refl
accepted_in (Err e) z = absurd (number_not_zero e z)

-- D of a headed file
module _ (f : List ℕ) (h : headed f ≡ true) where
  pub sections_low : 2 ≤ u32_at f 0
  unfolding headed
  sections_low = leb-true 2 (u32_at f 0) (holds _ h 1)

  pub sections_high : u32_at f 0 ≤ 17
  unfolding headed
  sections_high = leb-true (u32_at f 0) 17 (holds _ h 2)

-- the string count of key k
abbrev pub count_in : List ℕ → ℕ → ℕ
count_in f k = byte_at (key_section f k) 2

-- the strings of key k
abbrev pub run_in : List ℕ → ℕ → List LoopDesign
run_in f k = tabulate (count_in f k) (loop_in (key_section f k))

module _ (f : List ℕ) where
  pub length_run : (k : ℕ) → length (run_in f k) ≡ count_in f k
  length_run k = length_tabulate (count_in f k) (loop_in (key_section f k))

  pub strings_length : (n : ℕ) → length (strings_in f n) ≡ sum_below n (count_in f)
  unfolding strings_in
  strings_length = length_gather (run_in f) (count_in f) length_run

module _ (f : List ℕ) (n : ℕ) where
  abbrev keys : List KeyDesign
  keys = pad 16 no_key (keys_in f n)

  pub keys_length : length (keys_in f n) ≡ n
  unfolding keys_in
  keys_length = length_tabulate n (λ k. key_of (key_section f k))

  pub key_listed : (k : ℕ) → k < n → get_or (keys_in f n) k past_key ≡ key_of (key_section f k)
  unfolding keys_in
  key_listed k h = get_d_tabulate n (λ k. key_of (key_section f k)) k past_key h

  pub key_in_lem : (k : ℕ) → k < n → key_at keys k ≡ key_of (key_section f k)
  key_in_lem k h = pad_first 16 no_key past_key (keys_in f n) k (subst (λ (m : ℕ). k < m) (sym keys_length) h) ∙ key_listed k h

  pub count_in_lem : (k : ℕ) → k < n → (key_at keys k).strings ≡ count_in f k
  unfolding key_of
  count_in_lem k h = ap (λ (x : KeyDesign). x.strings) (key_in_lem k h)

  pub sum_in : (k : ℕ) → k ≤ n → string_sum keys k ≡ sum_below k (count_in f)
  unfolding string_sum
  sum_in k h = sum_cong k (λ j. (key_at keys j).strings) (count_in f) (λ j l. count_in_lem j (omega arith))

  pub fielded_key_lem : fielded f n ≡ true → (k : ℕ) → k < n → fielded_key (key_section f k) ≡ true
  unfolding fielded
  fielded_key_lem h = all_at (λ k. fielded_key (key_section f k)) n (holds _ h 1)

  pub keys_in_range_lem : fielded f n ≡ true → keys_in_range keys n ≡ true
  unfolding keys_in_range fielded_key
  keys_in_range_lem h = all_build n (λ k. key_in_range (key_at keys k)) (λ k l. ap key_in_range (key_in_lem k l) ∙ holds _ (fielded_key_lem h k l) 2)
