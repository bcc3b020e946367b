-- Refusal 7, "an instrument that no accepted file gives": the test of a record, and refusal 6's of its keys. Definitions only: assumes nothing.
use Rattle.std.specs.Prelude.{ℕ, ◌+◌, ◌-◌, List, [], ◌∷◌, Bool, false, not, leb, eqb, get_or}
use Rattle.std.specs.Float.{nan}
use Rattle.instrument_fields.specs.declared.KeyDesign.{KeyDesign}
use Rattle.instrument_fields.specs.declared.LoopDesign.{LoopDesign}
use Rattle.counting.specs.Every.{every}
use Rattle.instrument_fields.specs.Ranges.{common_in_range, key_in_range, string_in_range}
use Rattle.instrument_fields.specs.Unused.{is_no_key, is_no_string}
use Rattle.instrument.specs.declared.Instrument.{Instrument}
use Rattle.counting.specs.Below.{all_below, sum_below}

-- key k and string j; what stands past the end of a list is never asked
abbrev pub past_key : KeyDesign
past_key = record { key = 0; has_damper = false; strings = 0; weight = nan; damper_scale = nan; strike_ratio = nan; damper_ratio = nan }

abbrev pub key_at : List KeyDesign → ℕ → KeyDesign
key_at keys k = get_or keys k past_key

abbrev pub past_string : LoopDesign
past_string = record { n = 0; ap_count = 0; phi = nan; thiran_a = nan; ap_a = nan; loss_g = nan; loss_c = nan }

abbrev pub string_at : List LoopDesign → ℕ → LoopDesign
string_at strings j = get_or strings j past_string

-- ---- the first n keys

unfoldable pub keys_in_range : List KeyDesign → ℕ → Bool
keys_in_range keys n = all_below n (λ k. key_in_range (key_at keys k))

unfoldable pub string_sum : List KeyDesign → ℕ → ℕ
string_sum keys n = sum_below n (λ k. (key_at keys k).strings)

-- 6: no key's number is that of a key before it
unfoldable pub new_key : List KeyDesign → ℕ → Bool
new_key keys k = all_below k (λ j. not (eqb (key_at keys j).key (key_at keys k).key))

unfoldable pub keys_apart : List KeyDesign → ℕ → Bool
keys_apart keys n = all_below n (new_key keys)

-- the places from n on hold zeros
unfoldable pub keys_unused : List KeyDesign → ℕ → Bool
keys_unused keys n = all_below (16 - n) (λ k. is_no_key (key_at keys (n + k)))

-- ---- the first m strings

unfoldable pub strings_in_range : List LoopDesign → ℕ → Bool
strings_in_range strings m = all_below m (λ j. string_in_range (string_at strings j))

unfoldable pub strings_unused : List LoopDesign → ℕ → Bool
strings_unused strings m = all_below (32 - m) (λ j. is_no_string (string_at strings (m + j)))

-- ---- the whole record

unfoldable pub counted : Instrument → Bool
counted i = every (leb 1 i.key_count ∷ leb i.key_count 16 ∷ leb i.string_count 32 ∷ [])

unfoldable pub keys_valid : Instrument → Bool
keys_valid i = every (keys_in_range i.keys i.key_count ∷ keys_apart i.keys i.key_count ∷ keys_unused i.keys i.key_count ∷ [])

unfoldable pub strings_valid : Instrument → Bool
strings_valid i =
    every
    (eqb (string_sum i.keys i.key_count) i.string_count
    ∷ strings_in_range i.strings i.string_count
    ∷ strings_unused i.strings i.string_count
    ∷ [])

unfoldable pub valid : Instrument → Bool
valid i = every (common_in_range i.common ∷ counted i ∷ keys_valid i ∷ strings_valid i ∷ [])
