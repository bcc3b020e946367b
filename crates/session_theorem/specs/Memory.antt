-- Work memory after a call: a new first part, or a new part of a cue; the others, and the cells beyond the fifth, stay. Assumes nothing.
use Rattle.std.specs.Prelude.{◌≡◌, refl, true, List, ◌++◌, ℕ, zero, suc, ◌+◌, ◌-◌, ◌*◌, ◌<◌, ◌≤◌, Float, length, take, drop}
use Rattle.std.proofs.Common.{◌∙◌, ap, arith, zero-add, take_at}
use Rattle.cells.specs.Splice.{part, splice, length_splice, part_splice, drop_past, part_past, part_before}
use Rattle.instrument.specs.declared.Instrument.{Instrument}
use Rattle.instrument.specs.Valid.{valid}
use Rattle.instrument.specs.Work.{part_cells}
use Rattle.score.specs.declared.TimedEvent.{TimedEvent}
use Rattle.score.specs.Events.{State}
use Rattle.render.specs.Render.{run}
use Rattle.render.specs.Laws.{run_length}
use Rattle.render.specs.Work.{cells_are}
use Rattle.session.specs.Laws.{part_order, slot_fits, slot_past}

-- a run keeps a part's W cells
pub run_cells : (i : Instrument) → valid i ≡ true → (score : List TimedEvent) (t n : ℕ) (st : State) → length st.cells ≡ part_cells i
    → length (run i score t n st).cells ≡ part_cells i
run_cells i ok score t n st e = run_length i score t n st (omega (arith, cells_are i ok, e)) ∙ e

-- what stands first in memory or trace
pub front_now : (w : ℕ) (cells rest work' : List Float) → work' ≡ cells ++ rest → length cells ≡ w → take w work' ≡ cells
front_now w cells rest work' e size = ap (take w) e ∙ take_at cells rest w size

-- the first part anew
module _ (w : ℕ) (cells work work' : List Float) (e : work' ≡ cells ++ drop w work) (size : length cells ≡ w) (room : 5 * w ≤ length work) where
  pub front_cue : (j : ℕ) → part ((j + 1) * w) w work' ≡ part ((j + 1) * w) w work
  front_cue j = ap (part ((j + 1) * w) w) e ∙ part_past 0 w w cells work (zero-add w) size (omega arith) ((j + 1) * w) w (slot_past j w)

  pub front_length : length work' ≡ length work
  front_length = ap length e ∙ length_splice 0 w w cells work (zero-add w) size (omega arith)

  pub front_beyond : drop (5 * w) work' ≡ drop (5 * w) work
  front_beyond = ap (drop (5 * w)) e ∙ drop_past 0 w w cells work (zero-add w) size (omega arith) (5 * w) (omega arith)

-- the part of slot f anew
module _ (w f : ℕ) (cells work work' : List Float) (e : work' ≡ splice ((f + 1) * w) w cells work) (size : length cells ≡ w) (there : f < 4)
    (room : 5 * w ≤ length work) where
  fits : (f + 1) * w + w ≤ length work
  fits = slot_fits f w (length work) there room

  pub slot_now : take w work' ≡ take w work
  slot_now = ap (take w) e ∙ part_before ((f + 1) * w) w ((f + 1) * w + w) cells work refl size fits 0 w (omega (arith, slot_past f w))

  pub slot_new : part ((f + 1) * w) w work' ≡ cells
  slot_new = ap (part ((f + 1) * w) w) e ∙ part_splice ((f + 1) * w) w ((f + 1) * w + w) cells work refl size fits

  pub slot_other : (j : ℕ) → (j ≡ f → ⊥) → part ((j + 1) * w) w work' ≡ part ((j + 1) * w) w work
  slot_other j away = ap (part ((j + 1) * w) w) e ∙ go (j - f) refl (f - j) refl
    where
      go : (a : ℕ) → j - f ≡ a → (b : ℕ) → f - j ≡ b → part ((j + 1) * w) w (splice ((f + 1) * w) w cells work) ≡ part ((j + 1) * w) w work
      go zero x zero y = absurd (away (omega arith))
      go zero x (suc b) y =
          part_before ((f + 1) * w) w ((f + 1) * w + w) cells work refl size fits ((j + 1) * w) w (part_order (j + 1) (f + 1) w (omega arith))
      go (suc a) x b y =
          part_past ((f + 1) * w) w ((f + 1) * w + w) cells work refl size fits ((j + 1) * w) w (part_order (f + 1) (j + 1) w (omega arith))

  pub slot_length : length work' ≡ length work
  slot_length = ap length e ∙ length_splice ((f + 1) * w) w ((f + 1) * w + w) cells work refl size fits

  pub slot_beyond : drop (5 * w) work' ≡ drop (5 * w) work
  slot_beyond = ap (drop (5 * w)) e ∙ drop_past ((f + 1) * w) w ((f + 1) * w + w) cells work refl size fits (5 * w) (slot_fits f w (5 * w) there (omega arith))
