-- What the passes over a few strings do, string by string: the records that the contracts cite. Each is of any number m of strings, from string i on.
use Rattle.std.specs.Prelude.{◌≡◌, List, ℕ, ◌+◌, ◌*◌, ◌≤◌, ◌<◌, length, get_or, Float}
use Rattle.std.specs.Float.{nan}
use Rattle.cells.specs.Together.{own, Moved, Stored}
use Rattle.cells.specs.Together.{start_in, size_in}
use Rattle.filter.specs.Steps.{row_at, out_at}
use Rattle.string.specs.declared.StringDesign.{StringDesign}
use Rattle.string.specs.String.{size_of, at_row, v_in, filtered}
use Rattle.string.specs.Table.{design_at}
use Rattle.string.specs.Steps.{u_in, started, out_to, rowed_to, finished_out, finished}
use Rattle.rows.specs.declared.Rows.{Rows}
use Rattle.rows.specs.declared.Place.{Place}
use Rattle.strings.specs.Strings.{Keyed}

-- where string k's cells start, and how many they are
abbrev pub string_start : (ℕ → StringDesign) → ℕ → ℕ
string_start f k = start_in size_of f k

abbrev pub size_at : (ℕ → StringDesign) → ℕ → ℕ
size_at f k = size_in size_of f k

-- the next m strings, at most four, whose cells are there, where a walk over the strings stands
pub record Few (designs : List StringDesign) (here : Place) (m : ℕ) (w : List Float) : Type 0 where
  pub few : m ≤ 4
  pub known : here.i + m ≤ length designs
  pub fit : (k : ℕ) → k < here.i + m → Keyed (design_at designs k)
  pub start : here.at ≡ string_start (design_at designs) here.i
  pub room : string_start (design_at designs) (here.i + m) ≤ length w

-- string k is f k
module _ (f : ℕ → StringDesign) where
  abbrev pub cells_in : ℕ → List Float → List Float
  cells_in k w = own (string_start f) (size_at f) k w

  -- string i + l is moved on by g l, for each l below m
  abbrev pub MovedOn : ℕ → ℕ → (ℕ → List Float → List Float) → List Float → List Float → Type 0
  MovedOn i m g w₀ w = Moved (string_start f) (size_at f) i m g w₀ w

  -- where their rows start, the rows' coefficients, and a number of stages that each of them has
  pub record Laid (i m : ℕ) (r : Rows) : Type 0 where
    pub start : (l : ℕ) → l < m → get_or r.starts l 0 ≡ string_start f (i + l) + at_row (f (i + l))
    pub coefficient : (l : ℕ) → l < m → get_or r.ap_a l nan ≡ (f (i + l)).filter.ap_a
    pub enough : (l : ℕ) → l < m → r.stages ≤ (f (i + l)).ap_count
    pub most : r.stages ≤ 66

  -- each has taken in what reaches the bridge, through Thiran's stage: v has what leaves it
  pub record Started (i m t : ℕ) (w₀ w v : List Float) : Type 0 where
    pub long : length v ≡ 4
    pub cells : MovedOn i m (λ l p. started (f (i + l)) t p) w₀ w
    pub values : (l : ℕ) → l < m → get_or v l nan ≡ u_in (f (i + l)) t (cells_in (i + l) w₀)

  -- the values v₀ have passed stage s of each row
  pub record Staged (i m s : ℕ) (v₀ v w₀ w : List Float) : Type 0 where
    pub long : length v ≡ length v₀
    pub cells : MovedOn i m (λ l p. row_at (f (i + l)).filter.ap_a (at_row (f (i + l)) + 2 * s) 2 (get_or v₀ l nan) p) w₀ w
    pub values : (l : ℕ) → l < m
        → get_or v l nan ≡ out_at (f (i + l)).filter.ap_a (at_row (f (i + l)) + 2 * s) 2 (get_or v₀ l nan) (cells_in (i + l) w₀)

  -- the values v₀ have passed the first s stages of each row
  pub record InRows (i m s : ℕ) (v₀ v w₀ w : List Float) : Type 0 where
    pub long : length v ≡ length v₀
    pub cells : MovedOn i m (λ l p. rowed_to (f (i + l)) (2 * s) (get_or v₀ l nan) p) w₀ w
    pub values : (l : ℕ) → l < m → get_or v l nan ≡ out_to (f (i + l)) (2 * s) (get_or v₀ l nan) (cells_in (i + l) w₀)

  -- the values v have passed what was left behind the rows' first n cells, and what came out is stored; the strings' cells end at e
  pub record Finished (i m n : ℕ) (v w₀ w o₀ o : List Float) (e : ℕ) : Type 0 where
    pub cells : MovedOn i m (λ l p. finished (f (i + l)) n (get_or v l nan) p) w₀ w
    pub outputs : Stored nan i m (λ l. finished_out (f (i + l)) n (get_or v l nan) (cells_in (i + l) w₀)) o₀ o
    pub end : e ≡ string_start f (i + m)

  -- each string's loop filter is moved on, and its v_in stored
  pub record Filtered (i m t : ℕ) (w₀ w o₀ o : List Float) (e : ℕ) : Type 0 where
    pub cells : MovedOn i m (λ l p. filtered (f (i + l)) t p) w₀ w
    pub outputs : Stored nan i m (λ l. v_in (f (i + l)) t (cells_in (i + l) w₀)) o₀ o
    pub end : e ≡ string_start f (i + m)

  -- the same of the strings from i up to the next, of n
  pub record FilteredTo (i n t : ℕ) (w₀ w o₀ o : List Float) (r : Place) : Type 0 where
    pub m : ℕ
    pub some : 1 ≤ m
    pub next : r.i ≡ i + m
    pub below : i + m ≤ n
    pub filtered : Filtered i m t w₀ w o₀ o r.at
