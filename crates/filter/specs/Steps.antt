-- The loop filter in steps that other strings' may come between: Thiran's stage, the first k cells of the row, and the rest of the row with the loss.
use Rattle.std.specs.Prelude.{◌≡◌, refl, List, [], ◌∷◌, ◌++◌, ℕ, ◌+◌, ◌-◌, ◌≤◌, length, take, drop, get_or, Float}
use Rattle.std.proofs.Common.{sym, ap, ◌∙◌, arith, length-append, length-take, length-drop, length-set, take_at, drop_at, take-append-drop}
use Rattle.std.proofs.Math.ListN.{set}
use Rattle.std.specs.Float.{nan}
use Rattle.cells.specs.Splice.{part, splice, part_length, part_past, length_splice}
use Rattle.cells.specs.Middle.{part_add, splice_next}
use Rattle.filter.specs.declared.LoopFilter.{LoopFilter}
use Rattle.filter.specs.Filter.{stage_out, stage_cells, row_out, row_cells, loss_of, loop_out, loop_cells}
use Rattle.filter.specs.Laws.{stage_length, row_length, row_cut}
use Rattle.filter.specs.Loop.{loss_is}

-- the row on the k cells from s on, of the input v: the cells with it moved on, and what leaves it
abbrev pub row_at : Float → ℕ → ℕ → Float → List Float → List Float
row_at a s k v w = splice s k (row_cells a (part s k w) v) w

abbrev pub out_at : Float → ℕ → ℕ → Float → List Float → Float
out_at a s k v w = row_out a (part s k w) v

-- the rest of the row from its cell k on, then the loss, of the input v
abbrev pub rest_size : ℕ → List Float → ℕ
rest_size k f = length f - 1 - (2 + k)

unfoldable pub finish_out : LoopFilter → ℕ → List Float → Float → Float
finish_out c k f v =
    loss_of c.loss_g c.loss_c (get_or (row_at c.ap_a (2 + k) (rest_size k f) v f) (length f - 1) nan) (out_at c.ap_a (2 + k) (rest_size k f) v f)

unfoldable pub finish_cells : LoopFilter → ℕ → List Float → Float → List Float
finish_cells c k f v = set (row_at c.ap_a (2 + k) (rest_size k f) v f) (length f - 1) (finish_out c k f v)

-- a stage is the row of its two cells
pub stage_row : (a v : Float) (s : List Float) → length s ≡ 2 → (stage_out a s v ≡ row_out a s v) × (stage_cells a s v ≡ row_cells a s v)
unfolding stage_out stage_cells row_out row_cells
stage_row a v [] h = let z : ⊥ = omega arith in absurd z
stage_row a v (x ∷ []) h = let z : ⊥ = omega arith in absurd z
stage_row a v (x ∷ (y ∷ [])) h = (refl, refl)
stage_row a v (x ∷ (y ∷ (z ∷ s))) h = let q : ⊥ = omega arith in absurd q

-- a row on cells of which the first are n stages
module _ (a v : Float) (n : ℕ) (xs ys : List Float) (h : length xs ≡ n + n) where
  out_add : row_out a (xs ++ ys) v ≡ row_out a ys (row_out a xs v)
  out_add = (row_cut a v n (xs ++ ys)).0 ∙ rw (take_at xs ys (n + n) h, drop_at xs ys (n + n) h)

  cells_add : row_cells a (xs ++ ys) v ≡ row_cells a xs v ++ row_cells a ys (row_out a xs v)
  cells_add = (row_cut a v n (xs ++ ys)).1 ∙ rw (take_at xs ys (n + n) h, drop_at xs ys (n + n) h)

-- a row keeps the number of cells
pub row_at_length : (a v : Float) (s k : ℕ) (w : List Float) → s + k ≤ length w → length (row_at a s k v w) ≡ length w
row_at_length a v s k w h = length_splice s k (s + k) (row_cells a (part s k w) v) w refl (row_length a v (part s k w) ∙ part_length s k w h) h

-- After n stages, on the k cells from s on, the row on the next m cells gives the row on all k + m.
module _ (a v : Float) (n s k m : ℕ) (w : List Float) (hk : k ≡ n + n) (h : s + k + m ≤ length w) where
  abbrev first : List Float
  first = row_cells a (part s k w) v

  first_fits : s + k ≤ length w
  first_fits = omega arith

  first_length : length first ≡ k
  first_length = row_length a v (part s k w) ∙ part_length s k w first_fits

  next_part : part (s + k) m (row_at a s k v w) ≡ part (s + k) m w
  next_part = part_past s k (s + k) first w refl first_length first_fits (s + k) m (omega arith)

  both_halves : length (part s k w) ≡ n + n
  both_halves = part_length s k w first_fits ∙ hk

  pub next_out : out_at a (s + k) m (out_at a s k v w) (row_at a s k v w) ≡ out_at a s (k + m) v w
  next_out = rw (next_part, part_add s k m w, out_add a v n (part s k w) (part (s + k) m w) both_halves)

  pub next_row : row_at a (s + k) m (out_at a s k v w) (row_at a s k v w) ≡ row_at a s (k + m) v w
  next_row =
      ap (λ (l : List Float). splice (s + k) m (row_cells a l (out_at a s k v w)) (row_at a s k v w)) next_part
      ∙ splice_next s k m first (row_cells a (part (s + k) m w) (out_at a s k v w)) w first_length first_fits
      ∙ ap (λ (l : List Float). splice s (k + m) l w) (sym (cells_add a v n (part s k w) (part (s + k) m w) both_halves))
      ∙ ap (λ (l : List Float). splice s (k + m) (row_cells a l v) w) (sym (part_add s k m w))

-- Thiran's stage, n stages of the row, then what is left of it and the loss, are the loop filter.
module _ (c : LoopFilter) (f : List Float) (x : Float) (n k : ℕ) (hk : k ≡ n + n) (h : k + 3 ≤ length f) where
  abbrev a : Float
  a = c.ap_a

  abbrev started : List Float
  started = stage_cells c.thiran_a (take 2 f) x ++ drop 2 f

  abbrev pub u : Float
  u = stage_out c.thiran_a (take 2 f) x

  abbrev pub rowed : List Float
  rowed = row_at a 2 k u started

  abbrev pub v : Float
  v = out_at a 2 k u started

  started_length : length started ≡ length f
  started_length = simp (length-append, stage_length, length-take, length-drop) (omega arith)

  rowed_length : length rowed ≡ length f
  rowed_length = row_at_length a u 2 k started (omega (arith, started_length)) ∙ started_length

  abbrev m : ℕ
  m = length f - 1 - (2 + k)

  fits : 2 + k + m ≤ length started
  fits = omega (arith, started_length)

  whole : k + m ≡ length f - 3
  whole = omega arith

  loss : (loss_of c.loss_g c.loss_c (get_or (row_at a 2 (k + m) u started) (length f - 1) nan) (out_at a 2 (k + m) u started) ≡ loop_out c f x)
      × (set (row_at a 2 (k + m) u started) (length f - 1)
      (loss_of c.loss_g c.loss_c (get_or (row_at a 2 (k + m) u started) (length f - 1) nan) (out_at a 2 (k + m) u started)) ≡ loop_cells c f x)
  loss =
      loss_is c f (stage_cells c.thiran_a (take 2 f) x) (row_cells a (part 2 (k + m) started) u) x u (out_at a 2 (k + m) u started) (k + m) (omega arith) whole
      refl refl refl refl

  pub steps_out : finish_out c k rowed v ≡ loop_out c f x
  unfolding finish_out
  steps_out = rw (rowed_length, next_row a u n 2 k m started hk fits, next_out a u n 2 k m started hk fits) loss.0

  pub steps_cells : finish_cells c k rowed v ≡ loop_cells c f x
  unfolding finish_cells
  steps_cells = rw (steps_out, rowed_length, next_row a u n 2 k m started hk fits) (ap (λ (y : Float). set (row_at a 2 (k + m) u started) (length f - 1) y) (sym loss.0) ∙ loss.1)

-- So are Thiran's stage and all that comes behind it.
module _ (c : LoopFilter) (f : List Float) (x : Float) (h : 3 ≤ length f) where
  abbrev begun : List Float
  begun = stage_cells c.thiran_a (take 2 f) x ++ drop 2 f

  abbrev entered : Float
  entered = stage_out c.thiran_a (take 2 f) x

  pub begun_size : 3 ≤ length begun
  begun_size = omega (arith, started_length c f x 0 0 refl h)

  no_row : row_at c.ap_a 2 0 entered begun ≡ begun
  unfolding row_cells
  no_row = take-append-drop 2 begun

  no_out : out_at c.ap_a 2 0 entered begun ≡ entered
  unfolding row_out
  no_out = refl

  pub begun_out : finish_out c 0 begun entered ≡ loop_out c f x
  begun_out = rw (no_row, no_out) at (steps_out c f x 0 0 refl h)

  pub begun_cells : finish_cells c 0 begun entered ≡ loop_cells c f x
  begun_cells = rw (no_row, no_out) at (steps_cells c f x 0 0 refl h)

-- what is left keeps the number of cells
pub finish_length : (c : LoopFilter) (k : ℕ) (f : List Float) (v : Float) → k + 3 ≤ length f → length (finish_cells c k f v) ≡ length f
unfolding finish_cells
finish_length c k f v h = simp length-set (row_at_length c.ap_a v (2 + k) (rest_size k f) f (omega arith))
