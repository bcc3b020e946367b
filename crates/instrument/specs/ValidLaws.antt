-- What the test of a record says of its parts. Assumes nothing.
use Rattle.std.specs.Prelude.{◌≡◌, true, List, ℕ, ◌+◌, ◌≤◌, ◌<◌}
use Rattle.std.proofs.Math.Path.{refl}
use Rattle.std.proofs.Common.{arith}
use borrow.Author.Tests.{leb-true, eqb-true}
use Rattle.instrument_fields.specs.declared.KeyDesign.{KeyDesign}
use Rattle.counting.specs.Every.{holds}
use Rattle.instrument_fields.specs.Ranges.{common_in_range, key_in_range, string_in_range}
use Rattle.instrument.specs.declared.Instrument.{Instrument}
use Rattle.counting.specs.Below.{sum_below}
use Rattle.counting.specs.Laws.{all_at, sum_more, sum_within}
use Rattle.instrument.specs.Valid.{key_at, string_at, keys_in_range, string_sum, keys_apart, keys_unused, strings_in_range, strings_unused, counted, keys_valid, strings_valid, valid}

-- ---- keys in range

module _ (keys : List KeyDesign) (n : ℕ) (h : keys_in_range keys n ≡ true) where
  pub key_in_range_lem : (k : ℕ) → k < n → key_in_range (key_at keys k) ≡ true
  unfolding keys_in_range
  key_in_range_lem = all_at (λ k. key_in_range (key_at keys k)) n h

  pub some_strings : (k : ℕ) → k < n → 1 ≤ (key_at keys k).strings
  unfolding key_in_range
  some_strings k l = leb-true 1 (key_at keys k).strings (holds _ (key_in_range_lem k l) 0)

  pub few_strings_lem : (k : ℕ) → k < n → (key_at keys k).strings ≤ 3
  unfolding key_in_range
  few_strings_lem k l = leb-true (key_at keys k).strings 3 (holds _ (key_in_range_lem k l) 1)

module _ (keys : List KeyDesign) where
  pub string_sum_none : string_sum keys 0 ≡ 0
  unfolding string_sum sum_below
  string_sum_none = refl

  pub string_sum_more : (k : ℕ) → string_sum keys (k + 1) ≡ string_sum keys k + (key_at keys k).strings
  unfolding string_sum
  string_sum_more = sum_more (λ (k : ℕ). (key_at keys k).strings)

  -- key k's strings stand within those of n keys
  pub string_sum_within : (n k : ℕ) → k < n → string_sum keys k + (key_at keys k).strings ≤ string_sum keys n
  unfolding string_sum
  string_sum_within = sum_within (λ (k : ℕ). (key_at keys k).strings)

-- ---- the parts of the test

module _ (i : Instrument) where
  pub record Counts : Type 0 where
    pub some_keys : 1 ≤ i.key_count
    pub few_keys : i.key_count ≤ 16
    pub few_strings : i.string_count ≤ 32

  pub counts : counted i ≡ true → Counts
  unfolding counted
  counts h = record {
    some_keys = leb-true 1 i.key_count (holds _ h 0);
    few_keys = leb-true i.key_count 16 (holds _ h 1);
    few_strings = leb-true i.string_count 32 (holds _ h 2);
  }

  pub valid_keys : keys_valid i ≡ true → keys_in_range i.keys i.key_count ≡ true
  unfolding keys_valid
  valid_keys h = holds _ h 0

  module _ (h : valid i ≡ true) where
    pub common_ranges : common_in_range i.common ≡ true
    unfolding valid
    common_ranges = holds _ h 0

    pub valid_counts : Counts
    unfolding valid
    valid_counts = counts (holds _ h 1)

    pub keys_ranges : keys_in_range i.keys i.key_count ≡ true
    unfolding valid
    keys_ranges = valid_keys (holds _ h 2)

    pub keys_distinct : keys_apart i.keys i.key_count ≡ true
    unfolding valid keys_valid
    keys_distinct = holds _ (holds _ h 2) 1

    pub keys_rest : keys_unused i.keys i.key_count ≡ true
    unfolding valid keys_valid
    keys_rest = holds _ (holds _ h 2) 2

    pub strings_counted : string_sum i.keys i.key_count ≡ i.string_count
    unfolding valid strings_valid
    strings_counted = eqb-true _ _ (holds _ (holds _ h 3) 0)

    pub string_ranges : (j : ℕ) → j < i.string_count → string_in_range (string_at i.strings j) ≡ true
    unfolding valid strings_valid strings_in_range
    string_ranges = all_at (λ j. string_in_range (string_at i.strings j)) i.string_count (holds _ (holds _ h 3) 1)

    pub strings_rest : strings_unused i.strings i.string_count ≡ true
    unfolding valid strings_valid
    strings_rest = holds _ (holds _ h 3) 2

    -- S is 1 to 32
    pub some_string : 1 ≤ i.string_count
    some_string =
        let c = valid_counts in
        let a = some_strings i.keys i.key_count keys_ranges 0 (omega arith) in
        let b = string_sum_within i.keys i.key_count 0 (omega arith) in
        let e = strings_counted in
        omega arith
