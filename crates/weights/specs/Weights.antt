-- Document 02, W4: weights set by the numbers of their keys. Definitions only: assumes nothing.
use Rattle.std.specs.Prelude.{ℕ, Bool, ◌&&◌, cond, List, [], ◌∷◌, leb, ltb, eqb, length, get_or, set, Float}
use Rattle.counting.specs.Below.{all_below}
use Rattle.instrument_fields.specs.declared.KeyDesign.{KeyDesign}
use Rattle.instrument_fields.specs.Ranges.{of_whole, within}
use Rattle.instrument.specs.declared.Instrument.{Instrument}
use Rattle.instrument.specs.Valid.{key_at}
use Rattle.instrument.specs.KeyIndex.{key_index}

-- where the key of that number stands, and whether there is one
abbrev pub index_of : Instrument → ℕ → ℕ
index_of i key = key_index i.keys 0 i.key_count key

unfoldable pub has_key : Instrument → ℕ → Bool
has_key i key = leb i.key_count 16 && ltb (index_of i key) i.key_count

-- "f64 weight (0 to 100)", ends counted
abbrev pub weight_in_range : Float → Bool
weight_in_range w = within (of_whole 0) w (of_whole 100)

-- a key with another weight
unfoldable pub key_weighted : KeyDesign → Float → KeyDesign
key_weighted k w = record {
  key = k.key;
  has_damper = k.has_damper;
  strings = k.strings;
  weight = w;
  damper_scale = k.damper_scale;
  strike_ratio = k.strike_ratio;
  damper_ratio = k.damper_ratio;
}

-- an instrument with another weight of the key at a place
unfoldable pub weighted_at : Instrument → ℕ → Float → Instrument
weighted_at i k w = record {
  common = i.common;
  key_count = i.key_count;
  string_count = i.string_count;
  keys = set i.keys k (key_weighted (key_at i.keys k) w);
  strings = i.strings;
}

-- the key of that number gets the weight; nothing changes where there is none
unfoldable pub weighted : Instrument → ℕ → Float → Instrument
weighted i key w = cond (has_key i key) (weighted_at i (index_of i key) w) i

-- pair by pair, in order, as far as both lists go
unfoldable pub weighted_by : Instrument → List ℕ → List Float → Instrument
weighted_by i [] ws = i
weighted_by i (key ∷ keys) [] = i
weighted_by i (key ∷ keys) (w ∷ ws) = weighted_by (weighted i key w) keys ws

-- as many weights as keys, and every key there
unfoldable pub whole_pairs : Instrument → List ℕ → List Float → Bool
whole_pairs i keys weights = eqb (length keys) (length weights) && all_below (length keys) (λ j. has_key i (get_or keys j 0))
