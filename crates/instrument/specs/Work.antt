-- Document 01, "The session": "S is the number of strings; W the sum of 2n + 2·ap_count + 5 over them. Work memory is five parts of W cells". Assumes nothing.
use Rattle.std.specs.Prelude.{◌&&◌, cond, ℕ, ◌+◌, ◌*◌, leb}
use Rattle.instrument_fields.specs.declared.LoopDesign.{LoopDesign}
use Rattle.instrument.specs.declared.Instrument.{Instrument}
use Rattle.counting.specs.Below.{sum_below}
use Rattle.instrument.specs.Valid.{string_at}

abbrev pub string_cells : LoopDesign → ℕ
string_cells s = 2 * s.n + 2 * s.ap_count + 5

unfoldable pub part_cells : Instrument → ℕ
part_cells i = sum_below i.string_count (λ j. string_cells (string_at i.strings j))

-- what the code counts, for every record: strings that no file holds count for nothing
unfoldable pub counted_cells : LoopDesign → ℕ
counted_cells s = cond (leb s.n 2000 && leb s.ap_count 66) (string_cells s) 0

unfoldable pub counted_part : Instrument → ℕ
counted_part i = cond (leb i.string_count 32) (sum_below i.string_count (λ j. counted_cells (string_at i.strings j))) 0
