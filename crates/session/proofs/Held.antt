-- What restore leaves to show: in each of its three ways out the held state is in the first part. Assumes nothing.
use mathlib.Core.Path.{◌≡◌, sym, ◌∙◌, ap}
use mathlib.Core.Bool.{true, false}
use mathlib.Core.Logic.{inl}
use Rattle.std.specs.Prelude.{Some, None, is_some, position}
use mathlib.Core.List.{List, ◌++◌}
use Prim.Native.Nat.{ℕ, ◌+◌, ◌*◌, ◌<◌, ◌≤◌}
use native.Mathlib.Omega.{arith}
use borrow.Author.Tests.{eq-eqb, ne_eqb}
use lib.Ieee.{Float}
use lib.ListN.{length, take, drop, get_or, take-append-drop, replicate}
use lib.Seq.{length-take-le}
use Rattle.float.specs.Float.{zero as zero_cell}
use Rattle.cells.specs.Copy.{Apart}
use Rattle.cells.specs.Splice.{part, splice}
use Rattle.instrument.specs.declared.Instrument.{Instrument}
use Rattle.instrument.specs.Valid.{valid}
use Rattle.instrument.specs.Work.{part_cells}
use Rattle.score.specs.declared.Piano.{Piano}
use Rattle.render.specs.Render.{silent_piano}
use Rattle.positions.specs.Positions.{is_in}
use Rattle.session_cues.specs.declared.Cue.{Cue}
use Rattle.session_cues.specs.Cues.{stands_at, slot_at}
use Rattle.session_cues.specs.Laws.{found_at, slot_found}
use Rattle.session_record.specs.declared.Session.{Session}
use Rattle.session.specs.Calls.{kept_by, empty_cue, Restores}
use Rattle.session.specs.Laws.{get_any, slot_fits, slot_past, held_now, silent_cells, silent_piano_lem, held_cue, held_none}

module _ (i : Instrument) (s : Session) (work : List Float) (x : ℕ) where
  pub restored_now : x ≡ s.t → Restores i s work x s.piano work
  restored_now e =
      let h = held_now i s work x (eq-eqb x s.t e) in
      record { piano = sym (ap (λ st. st.piano) h); memory = sym (ap (λ st. st.cells ++ drop (part_cells i) work) h ∙ take-append-drop (part_cells i) work) }

  module _ (away : x ≡ s.t → ⊥) (w : ℕ) (ew : w ≡ part_cells i) where
    pub restored_cue : (slot : ℕ) → position (stands_at x) s.cues ≡ Some slot → (d : Cue) (work' : List Float)
        → work' ≡ splice 0 w (part ((slot + 1) * w) w work) work
        → Restores i s work x (get_or s.cues slot d).piano work'
    restored_cue slot found d work' e =
        let at = found_at (stands_at x) s.cues slot found in
        let k : slot ≡ slot_at x s.cues = at.0 in
        let f : is_in x (kept_by s) ≡ true = sym (slot_found x s.cues) ∙ ap is_some found in
        let st = held_cue i s work x (ne_eqb x s.t away) f in
        record {
          piano = ap (λ c. c.piano) (get_any s.cues slot d (empty_cue s.piano) at.1 ∙ ap (λ j. get_or s.cues j (empty_cue s.piano)) k)
              ∙ sym (ap (λ h. h.piano) st);
          memory = e ∙ rw (ew, k) (sym (ap (λ h. h.cells ++ drop (part_cells i) work) st));
        }

    pub restored_silence : valid i ≡ true → 5 * part_cells i ≤ length work → position (stands_at x) s.cues ≡ None
        → (r : Piano) (cells : List Float) → r ≡ silent_piano → cells ≡ replicate (length (take w work)) zero_cell
        → Restores i s work x r (cells ++ drop w work)
    restored_silence ok room missing r cells er ec =
        let f : is_in x (kept_by s) ≡ false = sym (slot_found x s.cues) ∙ ap is_some missing in
        let size : length (take w work) ≡ part_cells i = length-take-le w work (omega arith) ∙ ew in
        let st = sym (held_none i s work x (ne_eqb x s.t away) f) in
        record {
          piano = er ∙ silent_piano_lem i ∙ ap (λ h. h.piano) st;
          memory = rw ew (ap (λ c. c ++ drop (part_cells i) work) (silent_cells i ok (take w work) cells size ec ∙ ap (λ h. h.cells) st));
        }

-- a slot's part lies in the memory and apart from the first
pub slot_apart : (slot w n : ℕ) → slot < 4 → 5 * w ≤ n → Apart n 0 ((slot + 1) * w) w
slot_apart slot w n h room =
    let fits = slot_fits slot w n h room in record { goes = omega arith; comes = fits; apart = inl (omega (arith, slot_past slot w)) }
