-- "W the sum of 2n + 2·ap_count + 5" over the strings is the number of cells that the render asks for, and an instrument that passes refusal 7's test can
-- be rendered in a part of W cells with S cells of scratch.
use Rattle.std.specs.Prelude.{◌≡◌, refl, true, List, ℕ, zero, suc, ◌+◌, ◌≤◌, ◌<◌, length, Float}
use Rattle.std.proofs.Common.{ap, ◌∙◌, add-zero, arith}
use borrow.Author.Tests.{leb-true}
use Rattle.cells.specs.Parts.{total}
use Rattle.cells.specs.Numbered.{list_from}
use Rattle.cuts.specs.Laws.{cuts_sum}
use Rattle.counting.specs.Every.{holds}
use Rattle.instrument_fields.specs.Ranges.{string_in_range}
use Rattle.instrument.specs.declared.Instrument.{Instrument}
use Rattle.counting.specs.Below.{sum_below}
use Rattle.instrument.specs.Valid.{valid, key_at, string_at}
use Rattle.instrument.specs.ValidLaws.{valid_counts, string_ranges}
use Rattle.instrument.specs.Work.{string_cells, part_cells}
use Rattle.string.specs.declared.StringDesign.{StringDesign}
use Rattle.string.specs.String.{size_of}
use Rattle.strings.specs.Strings.{cells_of}
use Rattle.sample_constants.specs.Model.{owner_in, string_of, string_in, strings_of}
use Rattle.render.specs.Render.{Renderable}

-- one string more
total_more : (f : ℕ → StringDesign) (i n : ℕ) → total size_of (list_from f i (suc n)) ≡ total size_of (list_from f i n) + size_of (f (i + n))
unfolding total list_from
total_more f i zero = rw (add-zero i) (omega arith)
total_more f i (suc n) =
    let r = total_more f (i + 1) n in
    let e : i + 1 + n ≡ i + suc n = omega arith in
    ap (λ (k : ℕ). size_of (f i) + k) r ∙ ap (λ (k : ℕ). size_of (f i) + (total size_of (list_from f (i + 1) n) + size_of (f k))) e ∙ omega arith

sums_are : (f : ℕ → StringDesign) (g : ℕ → ℕ) (n : ℕ) → ((j : ℕ) → j < n → size_of (f j) ≡ g j) → total size_of (list_from f 0 n) ≡ sum_below n g
unfolding sum_below total list_from
sums_are f g zero h = refl
sums_are f g (suc n) h =
    let z : 0 + n ≡ n = omega arith in
    total_more f 0 n ∙ ap (λ (k : ℕ). total size_of (list_from f 0 n) + size_of (f k)) z
    ∙ ap (λ (k : ℕ). total size_of (list_from f 0 n) + k) (h n (omega arith)) ∙ ap (λ (k : ℕ). k + g n) (sums_are f g n (λ j q. h j (omega arith)))

module _ (i : Instrument) (h : valid i ≡ true) where
  -- the cuts sum to n, so a string has 2 n + 2 ap_count + 5 cells
  string_size : (j : ℕ) → j < i.string_count → size_of (string_in i j) ≡ string_cells (string_at i.strings j)
  unfolding string_in string_of string_in_range
  string_size j q =
      let l = string_at i.strings j in
      let key = key_at i.keys (owner_in i j) in
      let long : 4 ≤ (string_at i.strings j).n = leb-true 4 (string_at i.strings j).n (holds _ (string_ranges i h j q) 0) in
      let s = (cuts_sum l.n l.phi key.strike_ratio key.damper_ratio).sum (omega arith) in
      omega (arith, s)

  -- W
  pub cells_are : cells_of (strings_of i) ≡ part_cells i
  unfolding part_cells
  cells_are = sums_are (string_in i) (λ j. string_cells (string_at i.strings j)) i.string_count string_size

  pub valid_renderable : (part scratch : List Float) → part_cells i ≤ length part → i.string_count ≤ length scratch → Renderable i part scratch
  valid_renderable part scratch a b =
      let c = valid_counts i h in
      record { keys = c.few_keys; strings = c.few_strings; cells = omega (arith, cells_are, a); room = b }
