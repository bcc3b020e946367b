-- The refusals in their order, each by what the calls before it answered. Assumes nothing.
use mathlib.Core.Path.{◌≡◌, sym, ap, ◌∙◌}
use mathlib.Core.Bool.{true, false}
use mathlib.Core.List.{List}
use Prim.Native.Nat.{ℕ, ◌-◌, ◌≤◌, ◌<◌}
use native.Mathlib.Omega.{arith}
use lib.ListN.{length, take}
use borrow.Author.Tests.{lt-ltb, le-ltb}
use Rattle.std.specs.Prelude.{Ok, Err}
use Rattle.std.specs.List.{sum_by}
use Rattle.refusal.specs.declared.Refusal.TheVariants.{SectionCount, Chain, SectionLength, Field, ManyStrings, KeyTwice}
use Rattle.counting.specs.Below.{pad}
use Rattle.counting.specs.Laws.{pad_length}
use Rattle.little_endian.specs.Numbers.{u32_at}
use Rattle.instrument_fields.specs.declared.KeyDesign.{KeyDesign}
use Rattle.instrument_fields.specs.Unused.{no_key}
use Rattle.instrument.specs.Valid.{keys_in_range, string_sum, keys_apart}
use Rattle.instrument.proofs.Lists.{string_sum_first, string_sum_most, keys_apart_first}
use Rattle.instrument_file.specs.File.{headed, chained, measured, fielded, keys_in, instrument_of, refused, read_of}
use Rattle.instrument_file.specs.FileLaws.{keys_length, keys_in_range_lem}

module _ (f : List ℕ) where
  pub refused_1 : headed f ≡ false → Err SectionCount ≡ read_of f
  unfolding read_of
  refused_1 h = rw h

  module _ (n : ℕ) (count : n ≡ u32_at f 0 - 1) (h1 : headed f ≡ true) where
    pub refused_2 : chained f n ≡ false → Err Chain ≡ read_of f
    unfolding read_of
    refused_2 h = rw (← count, h1, h)

    module _ (h2 : chained f n ≡ true) where
      pub refused_3 : measured f n ≡ false → Err SectionLength ≡ read_of f
      unfolding read_of
      refused_3 h = rw (← count, h1, h2, h)

      module _ (h3 : measured f n ≡ true) where
        pub refused_4 : fielded f n ≡ false → Err Field ≡ read_of f
        unfolding read_of
        refused_4 h = rw (← count, h1, h2, h3, h)

        module _ (h4 : fielded f n ≡ true) (few : n ≤ 16) (keys : List KeyDesign) (is : keys ≡ pad 16 no_key (keys_in f n)) where
          size : length keys ≡ 16
          size = ap (λ (l : List KeyDesign). length l) is ∙ pad_length 16 no_key (keys_in f n) (omega (arith, keys_length f n))

          -- the sum of the keys' strings does not wrap
          pub sum_fits : sum_by (λ (k : KeyDesign). k.strings) (take n keys) ≤ 48
          sum_fits =
              string_sum_most keys n (omega (arith, size)) few
              (ap (λ (l : List KeyDesign). keys_in_range l n) is ∙ keys_in_range_lem f n h4)

          module _ (m : ℕ) (total : m ≡ sum_by (λ (k : KeyDesign). k.strings) (take n keys)) where
            pub sum_is : m ≡ string_sum keys n
            sum_is = total ∙ string_sum_first keys n (omega (arith, size))

            pub refused_5 : 32 < m → Err ManyStrings ≡ read_of f
            unfolding read_of instrument_of
            refused_5 h = rw (← count, h1, h2, h3, h4, ← is, ← sum_is, lt-ltb 32 m h)

            module _ (within : m ≤ 32) where
              apart_is : keys_apart (take n keys) (length (take n keys)) ≡ keys_apart keys n
              apart_is = keys_apart_first keys n (omega (arith, size))

              pub refused_6 : keys_apart (take n keys) (length (take n keys)) ≡ false → Err KeyTwice ≡ read_of f
              unfolding read_of instrument_of
              refused_6 h = rw (← count, h1, h2, h3, h4, ← is, ← sum_is, le-ltb 32 m within, sym apart_is ∙ h)

              pub accepts : keys_apart (take n keys) (length (take n keys)) ≡ true → Ok (instrument_of f n) ≡ read_of f
              unfolding read_of instrument_of
              accepts h = rw (← count, h1, h2, h3, h4, ← is, ← sum_is, le-ltb 32 m within, sym apart_is ∙ h)

-- a file that passes the first four tests and has more than 32 strings, in the file's own words
pub refused_over : (f : List ℕ) → headed f ≡ true → chained f (u32_at f 0 - 1) ≡ true → measured f (u32_at f 0 - 1) ≡ true
    → fielded f (u32_at f 0 - 1) ≡ true → 32 < string_sum (pad 16 no_key (keys_in f (u32_at f 0 - 1))) (u32_at f 0 - 1) → read_of f ≡ refused 5
unfolding read_of instrument_of
refused_over f h1 h2 h3 h4 h5 =
    let n = u32_at f 0 - 1 in
    rw (h1, h2, h3, h4, lt-ltb 32 (string_sum (pad 16 no_key (keys_in f n)) n) h5)
