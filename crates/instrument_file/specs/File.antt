-- Document 01, "Instrument file": the record that a file gives, or the first of the refusals 1 to 6 that the whole
-- file meets. Definitions only: assumes nothing.
use Rattle.std.specs.Prelude.{ℕ, ◌+◌, ◌-◌, ◌*◌, List, [], ◌∷◌, Bool, not, cond, leb, ltb, eqb, length, take, drop, Result, Ok, Err}
use Rattle.little_endian.specs.Numbers.{byte_at, u32_at}
use Rattle.instrument_fields.specs.declared.KeyDesign.{KeyDesign}
use Rattle.instrument_fields.specs.declared.LoopDesign.{LoopDesign}
use Rattle.counting.specs.Every.{every}
use Rattle.instrument_fields.specs.Fields.{common_of, key_of, loop_of}
use Rattle.instrument_fields.specs.Ranges.{common_in_range, key_in_range, string_in_range}
use Rattle.instrument_fields.specs.Unused.{no_common, no_key, no_string}
use Rattle.instrument.specs.declared.Instrument.{Instrument}
use Rattle.refusal.specs.declared.Refusal.{Refusal}
use Rattle.refusal.specs.Refusal.{numbered}
use Rattle.counting.specs.Below.{all_below, gather, tabulate, pad}
use Rattle.instrument.specs.Valid.{string_sum, keys_apart}

-- "A u32 D, then D pairs of u32, offset and length": those of section i
unfoldable pub offset_of : List ℕ → ℕ → ℕ
offset_of f i = u32_at f (4 + 8 * i)

unfoldable pub length_of : List ℕ → ℕ → ℕ
length_of f i = u32_at f (8 + 8 * i)

-- the bytes of section i, and no other byte: what a section is too short to hold counts as 0, whatever the file has after it
unfoldable pub section : List ℕ → ℕ → List ℕ
section f i = take (length_of f i) (drop (offset_of f i) f)

-- "Every other section is a key": key k, from 0
abbrev pub key_section : List ℕ → ℕ → List ℕ
key_section f k = section f (k + 1)

-- not 1: "The file is shorter than 4 or 4 + 8D bytes, or D is out of range." (2 to 17)
unfoldable pub headed : List ℕ → Bool
headed f = every (leb 4 (length f) ∷ leb 2 (u32_at f 0) ∷ leb (u32_at f 0) 17 ∷ leb (4 + 8 * u32_at f 0) (length f) ∷ [])

-- not 2: "The first offset is 4 + 8D, each next is the previous offset plus length, the last end is the
-- file's end." D is n + 1, for n keys; the sums are whole numbers and do not wrap
unfoldable pub linked : List ℕ → ℕ → Bool
linked f i = eqb (offset_of f (i + 1)) (offset_of f i + length_of f i)

unfoldable pub chained : List ℕ → ℕ → Bool
chained f n = every (eqb (offset_of f 0) (4 + 8 * (n + 1)) ∷ all_below n (linked f) ∷ eqb (offset_of f n + length_of f n) (length f) ∷ [])

-- not 3: "A section's length is not 76 or 36 + 44s, or s is out of range." (1 to 3; a section too short to hold s has s = 0)
unfoldable pub measured_key : List ℕ → Bool
measured_key b = every (leb 1 (byte_at b 2) ∷ leb (byte_at b 2) 3 ∷ eqb (length b) (36 + 44 * byte_at b 2) ∷ [])

unfoldable pub measured : List ℕ → ℕ → Bool
measured f n = every (eqb (length (section f 0)) 76 ∷ all_below n (λ k. measured_key (key_section f k)) ∷ [])

-- "then s strings of 44 bytes": string j of a key's section
unfoldable pub loop_in : List ℕ → ℕ → LoopDesign
loop_in b j = loop_of (take 44 (drop (36 + 44 * j) b))

-- not 4: "Another field is out of range, NaN or infinite, or the zero byte isn't 0."
unfoldable pub fielded_key : List ℕ → Bool
fielded_key b =
    every (leb (byte_at b 1) 1 ∷ eqb (byte_at b 3) 0 ∷ key_in_range (key_of b) ∷ all_below (byte_at b 2) (λ j. string_in_range (loop_in b j)) ∷ [])

unfoldable pub fielded : List ℕ → ℕ → Bool
fielded f n = every (common_in_range (common_of (section f 0)) ∷ all_below n (λ k. fielded_key (key_section f k)) ∷ [])

-- the record: the keys in the file's order and their strings, key after key; the places after them hold zeros
unfoldable pub keys_in : List ℕ → ℕ → List KeyDesign
keys_in f n = tabulate n (λ k. key_of (key_section f k))

unfoldable pub strings_in : List ℕ → ℕ → List LoopDesign
strings_in f n = gather n (λ k. tabulate (byte_at (key_section f k) 2) (loop_in (key_section f k)))

unfoldable pub instrument_of : List ℕ → ℕ → Instrument
instrument_of f n = record {
  common = common_of (section f 0);
  key_count = n;
  string_count = string_sum (pad 16 no_key (keys_in f n)) n;
  keys = pad 16 no_key (keys_in f n);
  strings = pad 32 no_string (strings_in f n);
}

-- the record of zeros
abbrev pub no_instrument : Instrument
no_instrument = record { common = no_common; key_count = 0; string_count = 0; keys = pad 16 no_key []; strings = pad 32 no_string [] }

-- a refused file's answer is the refusal of that number, an accepted file's the record
abbrev pub refused : ℕ → Result Instrument Refusal
refused number = Err (numbered number)

abbrev pub accepted : Instrument → Result Instrument Refusal
accepted i = Ok i

-- the record in an answer; zeros where the file is refused
abbrev pub instrument_in : Result Instrument Refusal → Instrument
instrument_in (Ok i) = i
instrument_in (Err e) = no_instrument

-- "reading a file 1 to 6", in this order; 5: "There are more than 32 strings."; 6: "A key number comes twice."
unfoldable pub read_of : List ℕ → Result Instrument Refusal
read_of f =
    let n = u32_at f 0 - 1 in
    let i = instrument_of f n in
    cond (not (headed f)) (refused 1)
    (cond (not (chained f n)) (refused 2)
    (cond (not (measured f n)) (refused 3)
    (cond (not (fielded f n)) (refused 4)
    (cond (ltb 32 i.string_count) (refused 5)
    (cond (not (keys_apart i.keys n)) (refused 6)
    (accepted i))))))
