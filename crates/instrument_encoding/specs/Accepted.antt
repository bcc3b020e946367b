-- Every accepted file gives an instrument that passes refusal 7's test. Assumes nothing.
use Rattle.std.specs.Prelude.{◌≡◌, Bool, false, not, cond, List, ℕ, suc, ◌-◌, ◌≤◌, ◌<◌, ltb, length, Result}
use Rattle.std.proofs.Math.Path.{refl, ap}
use Rattle.std.proofs.Common.{sym, ◌∙◌, subst, le_refl, arith}
use Rattle.std.proofs.Math.Bool.{true}
use Rattle.std.specs.Float.Ieee.{of_int, to_bits}
use borrow.Author.Tests.{le-leb, eq-eqb, ltb-false}
use Rattle.little_endian.specs.Numbers.{u32_at}
use Rattle.instrument_fields.specs.declared.KeyDesign.{KeyDesign}
use Rattle.instrument_fields.specs.declared.LoopDesign.{LoopDesign}
use Rattle.counting.specs.Every.{every, every_after, holds}
use Rattle.instrument_fields.specs.Fields.{common_of}
use Rattle.instrument_fields.specs.Ranges.{common_in_range, string_in_range}
use Rattle.instrument_fields.specs.Unused.{no_key, no_string, is_plus_zero, is_no_key, is_no_string}
use Rattle.instrument.specs.declared.Instrument.{Instrument}
use Rattle.refusal.specs.declared.Refusal.{Refusal}
use Rattle.refusal.specs.Refusal.{numbered, number_in, number_not_zero}
use Rattle.counting.specs.Below.{pad}
use Rattle.counting.specs.Laws.{all_at, all_build, get_d_tabulate, all_gather, pad_first}
use Rattle.instrument_file.specs.File.{section, key_section, headed, chained, measured, fielded, fielded_key, loop_in, keys_in, strings_in, instrument_of, refused, accepted, instrument_in, read_of}
use Rattle.instrument_file.specs.FileLaws.{sections_low, sections_high, count_in, run_in, length_run, strings_length, keys_length, sum_in, fielded_key_lem, keys_in_range_lem}
use Rattle.instrument.specs.Valid.{string_at, past_key, past_string, string_sum, keys_apart, keys_unused, strings_in_range, strings_unused, counted, keys_valid, strings_valid, valid}
use Rattle.instrument_encoding.specs.Parts.{pad_rest}

-- ---- what acceptance says

pass : (t : Bool) (k : ℕ) (x : Result Instrument Refusal) (i : Instrument) → cond (not t) (refused (suc k)) x ≡ accepted i → (t ≡ true) × (x ≡ accepted i)
pass true k x i h = (refl, h)
pass false k x i h = absurd (number_not_zero (numbered (suc k)) (ap number_in h))

pass_not : (t : Bool) (k : ℕ) (x : Result Instrument Refusal) (i : Instrument) → cond t (refused (suc k)) x ≡ accepted i → (t ≡ false) × (x ≡ accepted i)
pass_not false k x i h = (refl, h)
pass_not true k x i h = absurd (number_not_zero (numbered (suc k)) (ap number_in h))

pub record Accepts (f : List ℕ) (n : ℕ) (i : Instrument) : Type 0 where
  pub headed : headed f ≡ true
  pub chained : chained f n ≡ true
  pub measured : measured f n ≡ true
  pub fielded : fielded f n ≡ true
  pub few : string_sum (pad 16 no_key (keys_in f n)) n ≤ 32
  pub apart : keys_apart (pad 16 no_key (keys_in f n)) n ≡ true
  pub gives : instrument_of f n ≡ i

pub accepts : (f : List ℕ) (i : Instrument) → read_of f ≡ accepted i → Accepts f (u32_at f 0 - 1) i
unfolding read_of instrument_of
accepts f i h =
    let n = u32_at f 0 - 1 in
    let m = string_sum (pad 16 no_key (keys_in f n)) n in
    let x6 = cond (not (keys_apart (pad 16 no_key (keys_in f n)) n)) (refused 6) (accepted (instrument_of f n)) in
    let x5 = cond (ltb 32 m) (refused 5) x6 in
    let x4 = cond (not (fielded f n)) (refused 4) x5 in
    let x3 = cond (not (measured f n)) (refused 3) x4 in
    let x2 = cond (not (chained f n)) (refused 2) x3 in
    let a1 = pass (headed f) 0 x2 i h in
    let a2 = pass (chained f n) 1 x3 i a1.1 in
    let a3 = pass (measured f n) 2 x4 i a2.1 in
    let a4 = pass (fielded f n) 3 x5 i a3.1 in
    let a5 = pass_not (ltb 32 m) 4 x6 i a4.1 in
    let a6 = pass (keys_apart (pad 16 no_key (keys_in f n)) n) 5 (accepted (instrument_of f n)) i a5.1 in
    record {
      headed = a1.0;
      chained = a2.0;
      measured = a3.0;
      fielded = a4.0;
      few = ltb-false 32 m a5.0;
      apart = a6.0;
      gives = ap instrument_in a6.1;
    }

-- ---- the parts of the test

no_key_is : is_no_key no_key ≡ true
unfolding is_no_key every every_after is_plus_zero to_bits of_int
no_key_is = refl

no_string_is : is_no_string no_string ≡ true
unfolding is_no_string every every_after is_plus_zero to_bits of_int
no_string_is = refl

module _ (f : List ℕ) (n : ℕ) (i : Instrument) (a : Accepts f n i) where
  abbrev keys : List KeyDesign
  keys = pad 16 no_key (keys_in f n)

  abbrev strings : List LoopDesign
  strings = pad 32 no_string (strings_in f n)

  abbrev m : ℕ
  m = string_sum keys n

  pub common_fielded : common_in_range (common_of (section f 0)) ≡ true
  unfolding fielded
  common_fielded = holds _ a.fielded 0

  keys_rest : keys_unused keys n ≡ true
  unfolding keys_unused
  keys_rest = pad_rest 16 no_key past_key (keys_in f n) is_no_key n (keys_length f n) no_key_is

  gathered : length (strings_in f n) ≡ m
  gathered = strings_length f n ∙ sym (sum_in f n n (le_refl n))

  each_string : (j : ℕ) → j < m → string_in_range (string_at strings j) ≡ true
  unfolding strings_in fielded_key
  each_string j h =
      let one : (k j : ℕ) → k < n → j < count_in f k → string_in_range (string_at (run_in f k) j) ≡ true =
      λ k j l r. ap string_in_range (get_d_tabulate (count_in f k) (loop_in (key_section f k)) j past_string r)
      ∙ all_at (λ j. string_in_range (loop_in (key_section f k) j)) (count_in f k) (holds _ (fielded_key_lem f n a.fielded k l) 3) j r in
      ap string_in_range (pad_first 32 no_string past_string (strings_in f n) j (subst (λ (x : ℕ). j < x) (sym gathered) h))
      ∙ all_gather (run_in f) (count_in f) (length_run f) n string_in_range past_string one j (subst (λ (x : ℕ). j < x) (sum_in f n n (le_refl n)) h)

  strings_range : strings_in_range strings m ≡ true
  unfolding strings_in_range
  strings_range = all_build m (λ j. string_in_range (string_at strings j)) each_string

  strings_rest : strings_unused strings m ≡ true
  unfolding strings_unused
  strings_rest = pad_rest 32 no_string past_string (strings_in f n) is_no_string m gathered no_string_is

  gives_valid : 1 ≤ n → n ≤ 16 → valid (instrument_of f n) ≡ true
  unfolding valid counted keys_valid strings_valid every every_after instrument_of
  gives_valid h k =
      rw (
        common_fielded,
        le-leb 1 n h,
        le-leb n 16 k,
        le-leb m 32 a.few,
        keys_in_range_lem f n a.fielded,
        a.apart,
        keys_rest,
        eq-eqb m m refl,
        strings_range,
        strings_rest,
      )

-- THE LAW: every accepted file gives an instrument that passes the test
pub accepted_valid : (f : List ℕ) (i : Instrument) → read_of f ≡ accepted i → valid i ≡ true
accepted_valid f i h =
    let a = accepts f i h in
    let low = sections_low f a.headed in
    let high = sections_high f a.headed in
    ap valid (sym a.gives) ∙ gives_valid f (u32_at f 0 - 1) i a (omega arith) (omega arith)
