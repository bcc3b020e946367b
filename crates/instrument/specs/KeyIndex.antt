-- Where the key of a number stands among the record's keys. Definitions only: assumes nothing.
use Rattle.std.specs.Prelude.{ℕ, zero, suc, ◌+◌, List, cond, eqb, ltb, Option, Some, None}
use Rattle.instrument_fields.specs.declared.KeyDesign.{KeyDesign}
use Rattle.instrument.specs.declared.Instrument.{Instrument}
use Rattle.instrument.specs.Valid.{key_at}

-- the first of n keys from i on whose number is x; i + n where there is none
unfoldable pub key_index : List KeyDesign → ℕ → ℕ → ℕ → ℕ
key_index keys i zero x = i
key_index keys i (suc n) x = cond (eqb (key_at keys i).key x) i (key_index keys (i + 1) n x)

-- the same as an answer: the place where there is one
abbrev pub key_place : Instrument → ℕ → Option ℕ
key_place i x = cond (ltb (key_index i.keys 0 i.key_count x) i.key_count) (Some (key_index i.keys 0 i.key_count x)) None
