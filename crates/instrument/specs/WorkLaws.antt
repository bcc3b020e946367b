-- The bounds of S and W for a record that passes refusal 7's test: S is 1 to 32 and W at most 132,384; and what the code counts is W. Assumes nothing.
use Rattle.std.specs.Prelude.{◌≡◌, true, ◌≤◌}
use native.Mathlib.Omega.{arith}
use borrow.Author.Tests.{leb-true, le-leb}
use Rattle.instrument_fields.specs.declared.LoopDesign.{LoopDesign}
use Rattle.counting.specs.Every.{holds}
use Rattle.instrument_fields.specs.Ranges.{string_in_range}
use Rattle.instrument.specs.declared.Instrument.{Instrument}
use Rattle.counting.specs.Laws.{sum_bound, sum_cong}
use Rattle.instrument.specs.Valid.{string_at, valid}
use Rattle.instrument.specs.ValidLaws.{valid_counts, string_ranges, some_string}
use Rattle.instrument.specs.Work.{string_cells, part_cells, counted_cells, counted_part}

module _ (s : LoopDesign) (h : string_in_range s ≡ true) where
  short : s.n ≤ 2000
  unfolding string_in_range
  short = leb-true s.n 2000 (holds _ h 1)

  few_stages : s.ap_count ≤ 66
  unfolding string_in_range
  few_stages = leb-true s.ap_count 66 (holds _ h 2)

  cells_bound : string_cells s ≤ 4137
  cells_bound = let a = short in let b = few_stages in omega arith

  cells_counted : counted_cells s ≡ string_cells s
  unfolding counted_cells
  cells_counted = rw (le-leb s.n 2000 short, le-leb s.ap_count 66 few_stages)

module _ (i : Instrument) (h : valid i ≡ true) where
  pub strings_bound : (1 ≤ i.string_count) × (i.string_count ≤ 32)
  strings_bound = (some_string i h, (valid_counts i h).few_strings)

  pub part_bound : part_cells i ≤ 132384
  unfolding part_cells
  part_bound =
      let b = sum_bound (λ j. string_cells (string_at i.strings j)) i.string_count 4137 (λ j l. cells_bound (string_at i.strings j) (string_ranges i h j l)) in
      let m = (valid_counts i h).few_strings in
      omega arith

  pub part_counted : counted_part i ≡ part_cells i
  unfolding counted_part part_cells
  part_counted =
      let string = string_at i.strings in
      rw (le-leb i.string_count 32 (valid_counts i h).few_strings)
      (sum_cong i.string_count (λ j. counted_cells (string j)) (λ j. string_cells (string j)) (λ j l. cells_counted (string j) (string_ranges i h j l)))
