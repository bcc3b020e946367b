-- A string's loop filter in steps that other strings' may come between: what reaches the bridge enters it, the first k cells of the row, what is left.
use Rattle.std.specs.Prelude.{◌≡◌, refl, ℕ, ◌+◌, ◌*◌, ◌≤◌, length, take, drop, Float}
use Rattle.std.proofs.Common.{sym, ◌∙◌, arith, add-zero, length-append, length-take, length-drop, take_at, drop_at, length-take-le}
use Rattle.std.proofs.Math.Path.{ap}
use mathlib.Core.List.{List, ◌++◌}
use Rattle.cells.specs.Splice.{part, splice, part_length, splice_same, length_splice}
use Rattle.cells.specs.Middle.{part_middle, splice_middle}
use Rattle.filter.specs.Filter.{stage_out, stage_cells, row_cells}
use Rattle.filter.specs.Laws.{stage_length}
use Rattle.filter.specs.Steps.{row_at, out_at, finish_out, finish_cells, row_at_length, finish_length, steps_out, steps_cells}
use Rattle.string.specs.declared.StringDesign.{StringDesign}
use Rattle.string.specs.String.{size_of, at_row, at_cR, at_filter, filter_size, at_yS, filter_part, read_at, v_in, filtered}

-- Thiran's stage on what reaches the bridge
unfoldable pub u_in : StringDesign → ℕ → List Float → Float
u_in d t p = stage_out d.filter.thiran_a (part (at_filter d) 2 p) (read_at (at_cR d) d.nc t p)

unfoldable pub started : StringDesign → ℕ → List Float → List Float
started d t p = splice (at_filter d) 2 (stage_cells d.filter.thiran_a (part (at_filter d) 2 p) (read_at (at_cR d) d.nc t p)) p

-- the first k cells of the row, of the input u
abbrev pub out_to : StringDesign → ℕ → Float → List Float → Float
out_to d k u p = out_at d.filter.ap_a (at_row d) k u p

abbrev pub rowed_to : StringDesign → ℕ → Float → List Float → List Float
rowed_to d k u p = row_at d.filter.ap_a (at_row d) k u p

-- the rest of the row and the loss, of the input v
unfoldable pub finished_out : StringDesign → ℕ → Float → List Float → Float
finished_out d k v p = finish_out d.filter k (filter_part d p) v

unfoldable pub finished : StringDesign → ℕ → Float → List Float → List Float
finished d k v p = splice (at_filter d) (filter_size d) (finish_cells d.filter k (filter_part d p) v) p

-- each keeps the string's length
pub started_length : (d : StringDesign) (t : ℕ) (p : List Float) → length p ≡ size_of d → length (started d t p) ≡ size_of d
unfolding started
started_length d t p h =
    length_splice (at_filter d) 2 (at_filter d + 2) (stage_cells d.filter.thiran_a (part (at_filter d) 2 p) (read_at (at_cR d) d.nc t p)) p refl
    (stage_length d.filter.thiran_a (read_at (at_cR d) d.nc t p) (part (at_filter d) 2 p) ∙ part_length (at_filter d) 2 p (omega arith)) (omega arith)
    ∙ h

pub rowed_length : (d : StringDesign) (k : ℕ) (u : Float) (p : List Float) → k ≤ 2 * d.ap_count → length p ≡ size_of d
    → length (rowed_to d k u p) ≡ size_of d
rowed_length d k u p hk h = row_at_length d.filter.ap_a u (at_row d) k p (omega arith) ∙ h

pub finished_length : (d : StringDesign) (k : ℕ) (v : Float) (p : List Float) → k ≤ 2 * d.ap_count → length p ≡ size_of d
    → length (finished d k v p) ≡ size_of d
unfolding finished
finished_length d k v p hk h =
    let n : length (filter_part d p) ≡ filter_size d = part_length (at_filter d) (filter_size d) p (omega arith) in
    length_splice (at_filter d) (filter_size d) (at_yS d) (finish_cells d.filter k (filter_part d p) v) p refl
    (finish_length d.filter k (filter_part d p) v (omega arith) ∙ n) (omega arith)
    ∙ h

-- the three in a row are the loop filter
module _ (d : StringDesign) (t n k : ℕ) (p : List Float) (hn : k ≡ n + n) (hk : k ≤ 2 * d.ap_count) (h : length p ≡ size_of d) where
  abbrev x : Float
  x = read_at (at_cR d) d.nc t p

  abbrev f : List Float
  f = filter_part d p

  abbrev before : List Float
  before = take (at_filter d) p

  abbrev after : List Float
  after = drop (filter_size d) (drop (at_filter d) p)

  f_length : length f ≡ filter_size d
  f_length = part_length (at_filter d) (filter_size d) p (omega arith)

  before_length : length before ≡ at_filter d
  before_length = length-take-le (at_filter d) p (omega arith)

  p_is : p ≡ before ++ (f ++ after)
  p_is = sym (splice_same (at_filter d) (filter_size d) p)

  abbrev ys : List Float
  ys = stage_cells d.filter.thiran_a (take 2 f) x

  abbrev u : Float
  u = stage_out d.filter.thiran_a (take 2 f) x

  abbrev e : List Float
  e = ys ++ drop 2 f

  thiran_part : part (at_filter d) 2 p ≡ take 2 f
  thiran_part =
      ap (λ (l : List Float). part (at_filter d) 2 l) p_is
      ∙ ap (λ (k : ℕ). part k 2 (before ++ (f ++ after))) (sym (add-zero (at_filter d)))
      ∙ part_middle (at_filter d) 0 2 before f after before_length (omega (arith, f_length))

  u_is : u_in d t p ≡ u
  unfolding u_in
  u_is = rw thiran_part

  e_is : started d t p ≡ before ++ (e ++ after)
  unfolding started
  e_is =
      rw thiran_part
      (ap (λ (l : List Float). splice (at_filter d) 2 ys l) p_is
      ∙ ap (λ (k : ℕ). splice k 2 ys (before ++ (f ++ after))) (sym (add-zero (at_filter d)))
      ∙ splice_middle (at_filter d) 0 2 before f after before_length (omega (arith, f_length)) ys)

  e_length : length e ≡ filter_size d
  e_length = simp (length-append, stage_length, length-take, length-drop) (omega (arith, f_length))

  abbrev a : Float
  a = d.filter.ap_a

  v_is : out_to d k (u_in d t p) (started d t p) ≡ out_at a 2 k u e
  v_is = rw (u_is, e_is, part_middle (at_filter d) 2 k before e after before_length (omega (arith, e_length)))

  g_is : rowed_to d k (u_in d t p) (started d t p) ≡ before ++ (row_at a 2 k u e ++ after)
  g_is =
      rw (u_is, e_is, part_middle (at_filter d) 2 k before e after before_length (omega (arith, e_length)))
      (splice_middle (at_filter d) 2 k before e after before_length (omega (arith, e_length)) (row_cells a (part 2 k e) u))

  g_length : length (row_at a 2 k u e) ≡ filter_size d
  g_length = row_at_length a u 2 k e (omega (arith, e_length)) ∙ e_length

  -- the filter's cells there, and others put in their place
  filter_part_lem : filter_part d (before ++ (row_at a 2 k u e ++ after)) ≡ row_at a 2 k u e
  filter_part_lem =
      ap (λ (l : List Float). take (filter_size d) l) (drop_at before (row_at a 2 k u e ++ after) (at_filter d) before_length)
      ∙ take_at (row_at a 2 k u e) after (filter_size d) g_length

  put_back : (zs : List Float) → splice (at_filter d) (filter_size d) zs (before ++ (row_at a 2 k u e ++ after)) ≡ before ++ (zs ++ after)
  put_back zs =
      rw (
        take_at before (row_at a 2 k u e ++ after) (at_filter d) before_length,
        drop_at before (row_at a 2 k u e ++ after) (at_filter d) before_length,
        drop_at (row_at a 2 k u e) after (filter_size d) g_length,
      )

  fits : k + 3 ≤ length f
  fits = omega (arith, f_length)

  pub steps_v_in : finished_out d k (out_to d k (u_in d t p) (started d t p)) (rowed_to d k (u_in d t p) (started d t p)) ≡ v_in d t p
  unfolding finished_out v_in
  steps_v_in = rw (v_is, g_is, filter_part_lem) (steps_out d.filter f x n k hn fits)

  pub steps_filtered : finished d k (out_to d k (u_in d t p) (started d t p)) (rowed_to d k (u_in d t p) (started d t p)) ≡ filtered d t p
  unfolding finished filtered
  steps_filtered = rw (v_is, g_is, filter_part_lem, put_back, steps_cells d.filter f x n k hn fits)
