-- The file in two pieces, its table and its sections, and its length as the code counts it. Assumes nothing.
use Rattle.std.specs.Prelude.{◌≡◌, true, ◌&&◌, cond, List, ◌++◌, ℕ, ◌+◌, ◌*◌, leb, length}
use Rattle.std.proofs.Common.{append_assoc, le-leb}
use Rattle.little_endian.specs.Numbers.{le32}
use Rattle.counting.specs.Below.{gather}
use Rattle.instrument.specs.declared.Instrument.{Instrument}
use Rattle.instrument.specs.Valid.{valid}
use Rattle.instrument.specs.ValidLaws.{valid_counts}
use Rattle.instrument_encoding.specs.Encode.{section_bytes, section_start, packed, encode}
use Rattle.instrument_encoding.proofs.Lengths.{encode_length}

-- "D pairs of u32, offset and length": that of section k
abbrev pub pair_bytes : Instrument → ℕ → List ℕ
pair_bytes i k = le32 (section_start (i.key_count + 1) (section_bytes i) k) ++ le32 (length (section_bytes i k))

unfoldable pub table_bytes : Instrument → List ℕ
table_bytes i = le32 (i.key_count + 1) ++ gather (i.key_count + 1) (pair_bytes i)

pub table_sections : (i : Instrument) → table_bytes i ++ gather (i.key_count + 1) (section_bytes i) ≡ encode i
unfolding table_bytes encode packed
table_sections i = append_assoc (le32 (i.key_count + 1)) (gather (i.key_count + 1) (pair_bytes i)) (gather (i.key_count + 1) (section_bytes i))

-- what the code counts, for every record: none for counts that no file has
unfoldable pub counted_length : ℕ → ℕ → ℕ
counted_length keys strings = cond (leb keys 16 && leb strings 32) (88 + 44 * keys + 44 * strings) 0

pub length_counted : (i : Instrument) → valid i ≡ true → counted_length i.key_count i.string_count ≡ length (encode i)
unfolding counted_length
length_counted i v =
    let c = valid_counts i v in
    rw (le-leb i.key_count 16 c.few_keys, le-leb i.string_count 32 c.few_strings, encode_length i v)
