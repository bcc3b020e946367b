-- Strings whose dispersion rows are worked on together each end as they would alone: how each pass turns from string to string, how a stage follows the
-- stages before it, and that start, common stages and finish are the loop filter. No law names a number of strings.
use Rattle.std.specs.Prelude.{◌≡◌, List, [], ◌∷◌, ◌++◌, ℕ, ◌+◌, ◌-◌, ◌*◌, ◌≤◌, ◌<◌, length, take, drop, get_or, set, Float}
use Rattle.std.proofs.Math.Path.{refl, sym}
use Rattle.std.proofs.Common.{ap, ◌∙◌, subst, add-zero, le_trans, arith, length-set}
use Rattle.std.specs.Float.{nan}
use Rattle.cells.specs.Splice.{part, splice, part_length, splice_same}
use Rattle.cells.specs.Middle.{part_inside, splice_inside}
use Rattle.cells.specs.Together.{Stored, moved_none, moved_turn, moved_after, own_kept, moved_on, moved_all}
use Rattle.cells.specs.Together.{stored_turn, stored_as, stored_all, collect_own, front_next, starts_rise, ends_before, start_next}
use Rattle.cells.specs.Parts.{total}
use Rattle.cells.specs.Numbered.{list_from, and_here}
use Rattle.filter.specs.Filter.{stage_out, stage_cells, row_out, row_cells}
use Rattle.filter.specs.Steps.{row_at, out_at, row_at_length, stage_row, next_out, next_row}
use Rattle.string.specs.declared.StringDesign.{StringDesign}
use Rattle.string.specs.String.{size_of, at_row, v_in, filtered}
use Rattle.string.specs.Laws.{filtered_length}
use Rattle.string.specs.Table.{past_design, design_at, list_of}
use Rattle.string.specs.Steps.{u_in, started, out_to, rowed_to, finished_out, finished, started_length, finished_length, steps_v_in, steps_filtered}
use Rattle.rows.specs.declared.Rows.{Rows}
use Rattle.rows.specs.Rows.{string_start, size_at, cells_in, MovedOn, Few, Laid, Started, Staged, InRows, Finished, Filtered, FilteredTo}
use Rattle.rows.specs.declared.Place.{Place}
use Rattle.strings.specs.Strings.{AllFit, cells_of, filtered_one, filtered_all, v_in_one, v_ins}

-- ---- one stage of one string, whose cells start at o: it is lent its two cells by their place among all

module _ (d : StringDesign) (o s z k : ℕ) (w : List Float) (hs : s < d.ap_count) (fits : o + size_of d ≤ length w)
    (hz : z ≡ o + at_row d + 2 * s) (hk : k ≡ 2) where
  abbrev a : Float
  a = d.filter.ap_a

  abbrev p : List Float
  p = part o (size_of d) w

  here : z ≡ o + (at_row d + 2 * s)
  here = omega arith

  inside : at_row d + 2 * s + 2 ≤ size_of d
  inside = omega arith

  lent : part z k w ≡ part (at_row d + 2 * s) 2 p
  lent = rw (here, hk) (sym (part_inside o (size_of d) (at_row d + 2 * s) 2 w fits inside))

  two : length (part (at_row d + 2 * s) 2 p) ≡ 2
  two = let n = part_length o (size_of d) w fits in part_length (at_row d + 2 * s) 2 p (omega (arith, n))

  -- what leaves the stage, and the string's cells with it moved on
  pub stage_out_lem : (x r : Float) → r ≡ stage_out a (part z k w) x → r ≡ out_at a (at_row d + 2 * s) 2 x p
  stage_out_lem x r e = e ∙ ap (λ (l : List Float). stage_out a l x) lent ∙ (stage_row a x (part (at_row d + 2 * s) 2 p) two).0

  pub stage_cells_lem : (x : Float) (ys : List Float) → ys ≡ stage_cells a (part z k w) x
      → splice z k ys w ≡ splice o (size_of d) (row_at a (at_row d + 2 * s) 2 x p) w
  stage_cells_lem x ys e =
      let is : ys ≡ row_cells a (part (at_row d + 2 * s) 2 p) x =
      e ∙ ap (λ (l : List Float). stage_cells a l x) lent ∙ (stage_row a x (part (at_row d + 2 * s) 2 p) two).1 in
      rw (here, hk, is) (splice_inside o (size_of d) (at_row d + 2 * s) 2 (row_cells a (part (at_row d + 2 * s) 2 p) x) w fits inside)

-- ---- passes over a few strings

-- a pass that keeps the length leaves room for the next
pub few_still : {designs : List StringDesign} {here : Place} {m : ℕ} {w₀ w : List Float} → Few designs here m w₀ → length w ≡ length w₀ → Few designs here m w
few_still r e = let room = r.room in record { few = r.few; known = r.known; fit = r.fit; start = r.start; room = omega (arith, room, e) }

module _ (f : ℕ → StringDesign) where
  next : (k : ℕ) → string_start f (k + 1) ≡ string_start f k + size_at f k
  next k = start_next size_of f k

  -- string k's cells are there where a later string's start is
  pub cells_fit : (k j : ℕ) → k < j → string_start f k + size_at f k ≤ string_start f j
  cells_fit k j h = ends_before (string_start f) (size_at f) next k j h

  -- the same of a string that is known to be string k
  pub string_fits : (k j : ℕ) → k < j → (d : StringDesign) → d ≡ f k → string_start f k + size_of d ≤ string_start f j
  string_fits k j h d e = rw e (cells_fit k j h)

  pub cells_length : (k j : ℕ) (w : List Float) → k < j → string_start f j ≤ length w → length (cells_in f k w) ≡ size_of (f k)
  cells_length k j w h room =
      let fits = cells_fit k j h in
      part_length (string_start f k) (size_at f k) w (omega (arith, fits))

  pub on_none : (i : ℕ) (g : ℕ → List Float → List Float) (w : List Float) → MovedOn f i 0 g w w
  on_none i g w = moved_none (string_start f) (size_at f) next i g w

  -- one more string: its cells, lent from at to at + k, come back as ys
  module _ {i l m : ℕ} {g : ℕ → List Float → List Float} {w₀ w : List Float} (r : MovedOn f i l g w₀ w) (room : string_start f (i + m) ≤ length w₀) (hl : l < m)
      (at k : ℕ) (ha : at ≡ string_start f (i + l)) (hk : k ≡ size_at f (i + l)) where
    whole : string_start f (i + l) + size_at f (i + l) ≤ length w
    whole = let fits = cells_fit (i + l) (i + m) (omega arith) in omega (arith, r.same, fits)

    pub on_fits : at + k ≤ length w
    on_fits = omega (arith, whole)

    pub on_next : at + k ≡ string_start f (i + (l + 1))
    on_next = let e : i + (l + 1) ≡ i + l + 1 = omega arith in let n = next (i + l) in rw e (omega (arith, n))

    lent_is : take (at + k - at) (drop at w) ≡ cells_in f (i + l) w
    lent_is = let n : at + k - at ≡ size_at f (i + l) = omega arith in rw (n, ha)

    -- they are those of before the pass
    pub on_kept : take (at + k - at) (drop at w) ≡ cells_in f (i + l) w₀
    on_kept = lent_is ∙ own_kept (string_start f) (size_at f) next r (i + l) (omega arith)

    pub on_length : length (take (at + k - at) (drop at w)) ≡ size_of (f (i + l))
    on_length = ap length lent_is ∙ part_length (string_start f (i + l)) (size_at f (i + l)) w whole

    pub on_turn : ((p : List Float) → length p ≡ size_of (f (i + l)) → length (g l p) ≡ size_of (f (i + l)))
        → (ys : List Float) → ys ≡ g l (take (at + k - at) (drop at w)) → MovedOn f i (l + 1) g w₀ (splice at (at + k - at) ys w)
    on_turn keeps ys hy =
        let n : at + k - at ≡ size_at f (i + l) = omega arith in
        moved_turn (string_start f) (size_at f) next r ys (splice at (at + k - at) ys w) whole
        (ap length hy ∙ keeps (take (at + k - at) (drop at w)) on_length) (hy ∙ ap (g l) lent_is) (rw (n, ha))

  -- another stage of each row
  pub rows_turn : (i m s : ℕ) (v₀ v v' w₀ w w' : List Float) → string_start f (i + m) ≤ length w₀
      → ((l : ℕ) → l < m → s + 1 ≤ (f (i + l)).ap_count)
      → InRows f i m s v₀ v w₀ w → Staged f i m s v v' w w' → InRows f i m (s + 1) v₀ v' w₀ w'
  rows_turn i m s v₀ v v' w₀ w w' room enough r q = record {
    long = q.long ∙ r.long;
    cells = moved_after (string_start f) (size_at f) next r.cells q.cells (λ l p. rowed_to (d l) (2 * (s + 1)) (get_or v₀ l nan) p)
        (λ l h. ap (λ (x : Float). row_at (c l) (at_row (d l) + 2 * s) 2 x (rowed_to (d l) (2 * s) (get_or v₀ l nan) (own l))) (r.values l h)
        ∙ next_row (c l) (get_or v₀ l nan) s (at_row (d l)) (2 * s) 2 (own l) even (fits l h)
        ∙ ap (λ (n : ℕ). rowed_to (d l) n (get_or v₀ l nan) (own l)) more);
    values = λ l h. q.values l h
        ∙ ap (λ (x : Float). out_at (c l) (at_row (d l) + 2 * s) 2 x (cells_in f (i + l) w)) (r.values l h)
        ∙ ap (λ (p : List Float). out_at (c l) (at_row (d l) + 2 * s) 2 (out_to (d l) (2 * s) (get_or v₀ l nan) (own l)) p) (r.cells.each l h)
        ∙ next_out (c l) (get_or v₀ l nan) s (at_row (d l)) (2 * s) 2 (own l) even (fits l h) ∙ ap (λ (n : ℕ). out_to (d l) n (get_or v₀ l nan) (own l)) more;
  }
    where
      d : ℕ → StringDesign
      d l = f (i + l)

      c : ℕ → Float
      c l = (f (i + l)).filter.ap_a

      own : ℕ → List Float
      own l = cells_in f (i + l) w₀

      even : 2 * s ≡ s + s
      even = omega arith

      more : 2 * s + 2 ≡ 2 * (s + 1)
      more = omega arith

      fits : (l : ℕ) → l < m → at_row (f (i + l)) + 2 * s + 2 ≤ length (cells_in f (i + l) w₀)
      fits l h =
          let n = cells_length (i + l) (i + m) w₀ (omega arith) room in
          let k = enough l h in
          omega (arith, n, k)

  -- no stage yet
  pub rows_none : (i m : ℕ) (v w : List Float) → string_start f (i + m) ≤ length w → InRows f i m 0 v v w w
  unfolding row_cells row_out
  rows_none i m v w room = record {
    long = refl;
    cells = record { same = refl; before = refl; each = λ l h. sym (splice_same (at_row (f (i + l))) 0 (cells_in f (i + l) w)); past = refl };
    values = λ l h. refl;
  }

  -- no row is laid yet
  pub laid_none : (i : ℕ) (r : Rows) → r.stages ≤ 66 → Laid f i 0 r
  laid_none i r h = record {
    start = λ l q. let z : ⊥ = omega arith in absurd z;
    coefficient = λ l q. let z : ⊥ = omega arith in absurd z;
    enough = λ l q. let z : ⊥ = omega arith in absurd z;
    most = h;
  }

  -- one more row is laid
  pub laid_turn : {i l : ℕ} {r : Rows} → Laid f i l r → l < length r.starts → l < length r.ap_a → (z : ℕ) (a : Float) (s : ℕ)
      → z ≡ string_start f (i + l) + at_row (f (i + l)) → a ≡ (f (i + l)).filter.ap_a
      → s ≤ r.stages → s ≤ (f (i + l)).ap_count
      → Laid f i (l + 1) (record { starts = set r.starts l z; ap_a = set r.ap_a l a; stages = s })
  laid_turn {i} {l} {r} laid hs ha z a s ez ea es en = record {
    start = front_next 0 r.starts l (λ j. string_start f (i + j) + at_row (f (i + j))) hs laid.start z ez;
    coefficient = front_next nan r.ap_a l (λ j. (f (i + j)).filter.ap_a) ha laid.coefficient a ea;
    enough = and_here (λ j. s ≤ (f (i + j)).ap_count) l (λ j h. le_trans es (laid.enough j h)) en;
    most = le_trans es laid.most;
  }

  -- where the next string starts
  pub start_after : (i l : ℕ) → string_start f (i + (l + 1)) ≡ string_start f (i + l) + size_at f (i + l)
  start_after i l = let e : i + (l + 1) ≡ i + l + 1 = omega arith in ap (string_start f) e ∙ next (i + l)

  -- Turns of the loops over a few strings: string i + l, of m, has its cells lent from at to at + k.
  module _ (i l m t : ℕ) (w₀ w : List Float) (room : string_start f (i + m) ≤ length w₀) (hl : l < m) (at k : ℕ)
      (ha : at ≡ string_start f (i + l)) (hk : k ≡ size_at f (i + l)) where
    abbrev lent_cells : List Float
    lent_cells = take (at + k - at) (drop at w)

    pub started_turn : (v : List Float) → Started f i l t w₀ w v → l < length v → (r : Float) (ys : List Float)
        → r ≡ u_in (f (i + l)) t lent_cells → ys ≡ started (f (i + l)) t lent_cells → Started f i (l + 1) t w₀ (splice at (at + k - at) ys w) (set v l r)
    started_turn v s hv r ys er ey = record {
      long = length-set v l r ∙ s.long;
      cells = on_turn s.cells room hl at k ha hk (λ p h. started_length (f (i + l)) t p h) ys ey;
      values = front_next nan v l (λ j. u_in (f (i + j)) t (cells_in f (i + j) w₀)) hv s.values r
          (er ∙ ap (λ (p : List Float). u_in (f (i + l)) t p) (on_kept s.cells room hl at k ha hk));
    }

    pub finished_turn : (n : ℕ) (v o₀ o : List Float) (e : ℕ) → Finished f i l n v w₀ w o₀ o e → n ≤ 2 * (f (i + l)).ap_count → i + l < length o
        → (r : Float) (ys : List Float) → r ≡ finished_out (f (i + l)) n (get_or v l nan) lent_cells → ys ≡ finished (f (i + l)) n (get_or v l nan) lent_cells
        → Finished f i (l + 1) n v w₀ (splice at (at + k - at) ys w) o₀ (set o (i + l) r) (at + k)
    finished_turn n v o₀ o e q hs ho r ys er ey = record {
      cells = on_turn q.cells room hl at k ha hk (λ p h. finished_length (f (i + l)) n (get_or v l nan) p hs h) ys ey;
      outputs = stored_turn nan q.outputs ho r
          (er ∙ ap (λ (p : List Float). finished_out (f (i + l)) n (get_or v l nan) p) (on_kept q.cells room hl at k ha hk));
      end = on_next q.cells room hl at k ha hk;
    }

  -- The turn of a stage: string i + l, of m, is lent two of its cells, from z on.
  module _ (i l m s : ℕ) (v₀ v w₀ w : List Float) (room : string_start f (i + m) ≤ length w₀) (hl : l < m) (q : Staged f i l s v₀ v w₀ w) where
    pub stage_fits : string_start f (i + l) + size_of (f (i + l)) ≤ length w
    stage_fits = on_fits q.cells room hl (string_start f (i + l)) (size_of (f (i + l))) refl refl

    pub staged_turn : s < (f (i + l)).ap_count → get_or v l nan ≡ get_or v₀ l nan → l < length v → (z k : ℕ) (a r : Float) (ys : List Float)
        → z ≡ string_start f (i + l) + at_row (f (i + l)) + 2 * s → k ≡ 2 → a ≡ (f (i + l)).filter.ap_a
        → r ≡ stage_out a (part z k w) (get_or v l nan) → ys ≡ stage_cells a (part z k w) (get_or v l nan)
        → Staged f i (l + 1) s v₀ (set v l r) w₀ (splice z k ys w)
    staged_turn hs rest hv z k a r ys hz hk ha er ey =
        let x = get_or v₀ l nan in
        let y = row_at (f (i + l)).filter.ap_a (at_row (f (i + l)) + 2 * s) 2 (get_or v₀ l nan) (cells_in f (i + l) w) in
        let er' : r ≡ stage_out (f (i + l)).filter.ap_a (part z k w) (get_or v₀ l nan) = rw (ha, rest) at er in
        let ey' : ys ≡ stage_cells (f (i + l)).filter.ap_a (part z k w) (get_or v₀ l nan) = rw (ha, rest) at ey in
        let kept = own_kept (string_start f) (size_at f) next q.cells (i + l) (omega arith) in
        let long = part_length (string_start f (i + l)) (size_of (f (i + l))) w stage_fits in
        record {
          long = length-set v l r ∙ q.long;
          cells = moved_turn (string_start f) (size_at f) next q.cells y (splice z k ys w) stage_fits
              (row_at_length (f (i + l)).filter.ap_a x (at_row (f (i + l)) + 2 * s) 2 (cells_in f (i + l) w) (omega (arith, long)) ∙ long) refl
              (stage_cells_lem (f (i + l)) (string_start f (i + l)) s z k w hs stage_fits hz hk x ys ey');
          values = front_next nan v l
              (λ j. out_at (f (i + j)).filter.ap_a (at_row (f (i + j)) + 2 * s) 2 (get_or v₀ j nan) (cells_in f (i + j) w₀))
              hv q.values r
              (stage_out_lem (f (i + l)) (string_start f (i + l)) s z k w hs stage_fits hz hk x r er'
              ∙ ap (λ (p : List Float). out_at (f (i + l)).filter.ap_a (at_row (f (i + l)) + 2 * s) 2 x p) kept);
        }

  -- a string by itself, its cells lent from at to at + k
  pub one_is : (i t : ℕ) (w₀ o₀ : List Float) (at k : ℕ) (r : Float) (ys : List Float)
      → string_start f (i + 1) ≤ length w₀ → i < length o₀ → at ≡ string_start f i → k ≡ size_at f i
      → r ≡ v_in (f i) t (take (at + k - at) (drop at w₀)) → ys ≡ filtered (f i) t (take (at + k - at) (drop at w₀))
      → Filtered f i 1 t w₀ (splice at (at + k - at) ys w₀) o₀ (set o₀ i r) (at + k)
  one_is i t w₀ o₀ at k r ys room ho ha hk er ey =
      let z : i ≡ i + 0 = sym (add-zero i) in
      let none = on_none i (λ l p. filtered (f (i + l)) t p) w₀ in
      let one : 0 < 1 = omega arith in
      let here : at ≡ string_start f (i + 0) = ha ∙ ap (string_start f) z in
      let size : k ≡ size_at f (i + 0) = hk ∙ ap (size_at f) z in
      let own : v_in (f i) t (take (at + k - at) (drop at w₀)) ≡ v_in (f (i + 0)) t (cells_in f (i + 0) w₀) =
      ap (λ (n : ℕ). v_in (f n) t (take (at + k - at) (drop at w₀))) z ∙ ap (λ (p : List Float). v_in (f (i + 0)) t p) (on_kept none room one at k here size) in
      record {
        cells = on_turn none room one at k here size (λ p h. filtered_length (f (i + 0)) t p h) ys
            (ey ∙ ap (λ (n : ℕ). filtered (f n) t (take (at + k - at) (drop at w₀))) z);
        outputs = subst (λ (n : ℕ). Stored nan i 1 (λ l. v_in (f (i + l)) t (cells_in f (i + l) w₀)) o₀ (set o₀ n r)) (add-zero i)
            (stored_turn nan (moved_none (λ j. j) (λ j. 1) (λ j. refl) i (λ l p. v_in (f (i + l)) t (cells_in f (i + l) w₀) ∷ []) o₀)
            (omega arith) r (er ∙ own));
        end = on_next none room one at k here size;
      }

  -- started, through the common stages, and finished: each string's loop filter is moved on
  pub filtered_is : (i m t : ℕ) (r : Rows) (w₀ w₁ w₂ w₃ v₁ v₂ o₀ o : List Float) (e : ℕ) → string_start f (i + m) ≤ length w₀ → Laid f i m r
      → Started f i m t w₀ w₁ v₁ → InRows f i m r.stages v₁ v₂ w₁ w₂ → Finished f i m (2 * r.stages) v₂ w₂ w₃ o₀ o e
      → Filtered f i m t w₀ w₃ o₀ o e
  filtered_is i m t r w₀ w₁ w₂ w₃ v₁ v₂ o₀ o e room laid a b c = record {
    cells = moved_after (string_start f) (size_at f) next
        (moved_after (string_start f) (size_at f) next a.cells b.cells
        (λ l p. rowed_to (f (i + l)) (2 * r.stages) (get_or v₁ l nan) (started (f (i + l)) t p)) (λ l h. refl))
        c.cells (λ l p. filtered (f (i + l)) t p)
        (λ l h. ap (λ (x : Float). finished (d l) k x (rowed_to (d l) k (get_or v₁ l nan) (started (d l) t (own l)))) (value l h)
        ∙ ap (λ (x : Float). finished (d l) k (out_to (d l) k (u_in (d l) t (own l)) (started (d l) t (own l)))
        (rowed_to (d l) k x (started (d l) t (own l)))) (a.values l h)
        ∙ steps_filtered (d l) t r.stages k (own l) even (enough l h) (long l h));
    outputs = stored_as nan c.outputs (λ l. v_in (f (i + l)) t (cells_in f (i + l) w₀)) (λ l h.
        ap (λ (x : Float). finished_out (d l) k x (cells_in f (i + l) w₂)) (value l h)
        ∙ ap (λ (p : List Float). finished_out (d l) k (out_to (d l) k (u_in (d l) t (own l)) (started (d l) t (own l))) p) (cells l h)
        ∙ steps_v_in (d l) t r.stages k (own l) even (enough l h) (long l h));
    end = c.end;
  }
    where
      d : ℕ → StringDesign
      d l = f (i + l)

      k : ℕ
      k = 2 * r.stages

      own : ℕ → List Float
      own l = cells_in f (i + l) w₀

      even : 2 * r.stages ≡ r.stages + r.stages
      even = omega arith

      enough : (l : ℕ) → l < m → 2 * r.stages ≤ 2 * (f (i + l)).ap_count
      enough l h = let n = laid.enough l h in omega (arith, n)

      long : (l : ℕ) → l < m → length (cells_in f (i + l) w₀) ≡ size_of (f (i + l))
      long l h = cells_length (i + l) (i + m) w₀ (omega arith) room

      value : (l : ℕ) → l < m → get_or v₂ l nan ≡ out_to (d l) k (u_in (d l) t (own l)) (started (d l) t (own l))
      value l h =
          b.values l h ∙ ap (λ (x : Float). out_to (d l) k x (cells_in f (i + l) w₁)) (a.values l h)
          ∙ ap (λ (p : List Float). out_to (d l) k (u_in (d l) t (own l)) p) (a.cells.each l h)

      cells : (l : ℕ) → l < m → cells_in f (i + l) w₂ ≡ rowed_to (d l) k (u_in (d l) t (own l)) (started (d l) t (own l))
      cells l h =
          b.cells.each l h ∙ ap (λ (x : Float). rowed_to (d l) k x (cells_in f (i + l) w₁)) (a.values l h)
          ∙ ap (λ (p : List Float). rowed_to (d l) k (u_in (d l) t (own l)) p) (a.cells.each l h)

  -- ---- the walk over all strings, a few at a turn

  -- strings below i are filtered
  pub record FilteredBelow (i t : ℕ) (w₀ w o₀ o : List Float) (at : ℕ) : Type 0 where
    pub cells : MovedOn f 0 i (λ k p. filtered (f k) t p) w₀ w
    pub outputs : Stored nan 0 i (λ k. v_in (f k) t (cells_in f k w₀)) o₀ o
    pub end : at ≡ string_start f i

  pub below_none : (t : ℕ) (w o : List Float) → FilteredBelow 0 t w w o o 0
  unfolding total list_from
  below_none t w o = record { cells = on_none 0 (λ k p. filtered (f k) t p) w; outputs = moved_none (λ j. j) (λ j. 1) (λ j. refl) 0 _ o; end = refl }

  -- then the next few are
  pub below_turn : {i n t at : ℕ} {w₀ w w' o₀ o o' : List Float} {r : Place} → FilteredBelow i t w₀ w o₀ o at
      → FilteredTo f i n t w w' o o' r → string_start f n ≤ length w₀ → n ≤ length o₀
      → FilteredBelow r.i t w₀ w' o₀ o' r.at
  below_turn {i} {n} {t} {at} {w₀} {w} {w'} {o₀} {o} {o'} {r} a b room long =
      let m = b.m in
      let fits : string_start f (i + b.m) ≤ length w₀ = le_trans (starts_rise (string_start f) (size_at f) next (i + b.m) n b.below) room in
      let far : i + b.m ≤ length o₀ = le_trans b.below long in
      let kept : (l : ℕ) → v_in (f (i + l)) t (cells_in f (i + l) w) ≡ v_in (f (i + l)) t (cells_in f (i + l) w₀) =
      λ l. ap (λ (p : List Float). v_in (f (i + l)) t p) (own_kept (string_start f) (size_at f) next a.cells (i + l) (omega arith)) in
      rw b.next (record {
        cells = moved_on (string_start f) (size_at f) next a.cells b.filtered.cells (λ l p. refl) fits;
        outputs = moved_on (λ j. j) (λ j. 1) (λ j. refl) a.outputs b.filtered.outputs (λ l p. ap (λ (x : Float). x ∷ []) (kept l)) far;
        end = b.filtered.end;
      })

  -- all are
  pub below_all : {n t at : ℕ} {w₀ w o₀ o : List Float} → FilteredBelow n t w₀ w o₀ o at → n ≤ length o₀
      → (w ≡ filtered_all (list_from f 0 n) t w₀) × (o ≡ v_ins (list_from f 0 n) t w₀ ++ drop n o₀)
  below_all {n} {t} {at} {w₀} {w} {o₀} {o} r long = (
    moved_all size_of f (filtered_one t) w₀ w n r.cells,
    stored_all nan (λ k. v_in (f k) t (cells_in f k w₀)) o₀ o n r.outputs long
        ∙ ap (λ (l : List Float). l ++ drop n o₀) (sym (collect_own size_of f (v_in_one t) w₀ n)),
  )

module _ (designs : List StringDesign) where
  -- all strings' cells end where a string past the last would start
  pub all_room : (w : List Float) → cells_of designs ≤ length w → string_start (design_at designs) (length designs) ≤ length w
  all_room w h = subst (λ (ds : List StringDesign). cells_of ds ≤ length w) (sym (list_of designs past_design)) h

  -- all strings are filtered
  pub filtered_whole : (t at : ℕ) (w₀ w o₀ o : List Float) → FilteredBelow (design_at designs) (length designs) t w₀ w o₀ o at → length designs ≤ length o₀
      → (w ≡ filtered_all designs t w₀) × (o ≡ v_ins designs t w₀ ++ drop (length designs) o₀)
  filtered_whole t at w₀ w o₀ o r long =
      subst (λ (ds : List StringDesign). (w ≡ filtered_all ds t w₀) × (o ≡ v_ins ds t w₀ ++ drop (length designs) o₀))
      (list_of designs past_design) (below_all (design_at designs) r long)

-- what is asked of the next m strings
pub next_few : {designs : List StringDesign} {here : Place} {m : ℕ} {w : List Float} → AllFit designs → cells_of designs ≤ length w
    → here.at ≡ string_start (design_at designs) here.i → here.i + m ≤ length designs → m ≤ 4 → Few designs here m w
next_few {designs} {here} {m} {w} ok room start below few =
    let f = design_at designs in
    record {
      few = few;
      known = below;
      fit = λ k q. ok.each k (omega arith);
      start = start;
      room = le_trans (starts_rise (string_start f) (size_at f) (start_next size_of f) (here.i + m) (length designs) below) (all_room designs w room);
    }

module _ {designs : List StringDesign} {here : Place} {m : ℕ} {w : List Float} (few : Few designs here m w) (l : ℕ) (hl : l < m) where
  -- the next strings' cells are there
  pub few_fits : string_start (design_at designs) (here.i + l) + size_of (design_at designs (here.i + l)) ≤ length w
  few_fits = le_trans (cells_fit (design_at designs) (here.i + l) (here.i + m) (omega arith)) few.room

  -- and so are those of the stages that all their rows have
  pub stage_room : {r : Rows} → Laid (design_at designs) here.i m r → (s : ℕ) → s < r.stages → get_or r.starts l 0 + 2 * s + 2 ≤ length w
  stage_room laid s hs =
      let fits = few_fits in
      let start = laid.start l hl in
      let enough = laid.enough l hl in
      omega (arith, fits, start, enough)

-- of one string alone
pub one_fits : {designs : List StringDesign} {here : Place} {w : List Float} → Few designs here 1 w → here.at + size_of (design_at designs here.i) ≤ length w
one_fits {designs} {here} few =
    let f = design_at designs in
    let fits = cells_fit f here.i (here.i + 1) (omega arith) in
    omega (arith, fits, few.room, few.start)
