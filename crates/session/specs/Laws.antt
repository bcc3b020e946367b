-- Laws of work memory's parts and of the state held for a position. Assumes nothing.
use Rattle.std.specs.Prelude.{◌≡◌, refl, Bool, true, false, List, [], ◌∷◌, ℕ, zero, suc, ◌+◌, ◌*◌, ◌<◌, ◌≤◌, eqb, Float, length, get_or, replicate}
use Rattle.std.proofs.Common.{sym, ◌∙◌, ap, arith, add-mul, one-mul, mul-le-mul_right, eqb-true, le-leb, ltb-true, length-take-le}
use Rattle.float.specs.Float.{zero as zero_cell}
use Rattle.cells.specs.Splice.{part_length}
use Rattle.instrument.specs.declared.Instrument.{Instrument}
use Rattle.instrument.specs.Valid.{valid}
use Rattle.instrument.specs.Work.{part_cells}
use Rattle.score.specs.declared.TimedEvent.{TimedEvent}
use Rattle.score.specs.declared.Piano.{Piano}
use Rattle.score.specs.Events.{State}
use Rattle.score.specs.Contacts.{contacts_of}
use Rattle.render.specs.Render.{PianoAt, silent_piano, silence, render_state}
use Rattle.render.specs.Laws.{silent_at, render_contact, render_length}
use Rattle.render.specs.Hammers.{render_hammer}
use Rattle.render.specs.Steps.{state_after}
use Rattle.render.specs.Work.{cells_are}
use Rattle.positions.specs.Positions.{is_in}
use Rattle.session_cues.specs.Cues.{slot_at, sound_piano}
use Rattle.session_cues.specs.Laws.{slot_in, slot_kept, cue_sound, piano_parts}
use Rattle.session_record.specs.declared.Session.{Session}
use Rattle.session_record.specs.Laws.{Passed}
use Rattle.session.specs.Calls.{kept_by, empty_cue, state_now, state_cue, held_at}

-- ---- parts

pub next_part : (j w : ℕ) → (j + 1) * w ≡ j * w + w
next_part j w = add-mul j 1 w ∙ ap (λ n. j * w + n) (one-mul w)

pub part_order : (j k w : ℕ) → j < k → j * w + w ≤ k * w
part_order j k w h = omega (arith, next_part j w, mul-le-mul_right {m = j + 1} {n = k} w (omega arith))

-- slot j's part lies in five parts, past the first
pub slot_fits : (j w n : ℕ) → j < 4 → 5 * w ≤ n → (j + 1) * w + w ≤ n
slot_fits j w n h g = omega (arith, part_order (j + 1) 5 w (omega arith))

pub slot_past : (j w : ℕ) → w ≤ (j + 1) * w
slot_past j w = omega (arith, next_part j w)

-- an element within a list does not depend on what stands past its end
pub get_any : {A : Type 0} (l : List A) (j : ℕ) (d e : A) → j < length l → get_or l j d ≡ get_or l j e
get_any [] j d e h = absurd (omega arith)
get_any (x ∷ xs) zero d e h = refl
get_any (x ∷ xs) (suc j) d e h = get_any xs j d e (omega arith)

-- ---- what the renderer may be given, and what it gives, in its own words

module _ (keys x : ℕ) (p : Piano) where
  pub sound_from_render : PianoAt keys p x → sound_piano keys x p ≡ true
  unfolding sound_piano
  sound_from_render a = rw (le-leb (contacts_of keys p) x a.within) a.hammer

  pub sound_for_render : sound_piano keys x p ≡ true → PianoAt keys p x
  sound_for_render e = let a = piano_parts keys x p e in record { within = a.0; hammer = a.1 }

-- a state of the render can be held for its position
pub rendered_sound : (i : Instrument) (score : List TimedEvent) (x : ℕ) (st : State) → st ≡ render_state i score x → sound_piano i.key_count x st.piano ≡ true
rendered_sound i score x st e =
    rw e (sound_from_render i.key_count x (render_state i score x).piano (record { within = render_contact i score x; hammer = render_hammer i score x }))

-- a state of the render has W cells
pub rendered_length : (i : Instrument) → valid i ≡ true → (score : List TimedEvent) (p : ℕ) → length (render_state i score p).cells ≡ part_cells i
rendered_length i ok score p = render_length i score p ∙ cells_are i ok

-- at 0 it is silence
pub render_zero : (i : Instrument) (score : List TimedEvent) → render_state i score 0 ≡ silence i
unfolding state_after
render_zero i score = refl

pub silent_length : (i : Instrument) → valid i ≡ true → length (silence i).cells ≡ part_cells i
silent_length i ok = ap (λ s. length s.cells) (sym (render_zero i [])) ∙ rendered_length i ok [] 0

-- silence in a part of W cells
pub silent_cells : (i : Instrument) → valid i ≡ true → (part cells : List Float) → length part ≡ part_cells i
    → cells ≡ replicate (length part) zero_cell → cells ≡ (silence i).cells
unfolding silence
silent_cells i ok part cells e f = f ∙ ap (λ n. replicate n zero_cell) (e ∙ sym (cells_are i ok))

pub silent_piano_lem : (i : Instrument) → silent_piano ≡ (silence i).piano
unfolding silence
silent_piano_lem i = refl

silent_sound : (i : Instrument) (x : ℕ) → sound_piano i.key_count x (silence i).piano ≡ true
silent_sound i x = rw (← silent_piano_lem i) (sound_from_render i.key_count x silent_piano (silent_at i.key_count x))

-- ---- the state held for a position

module _ (i : Instrument) (s : Session) (work : List Float) (x : ℕ) where
  pub held_now : eqb x s.t ≡ true → held_at i s work x ≡ state_now i s work
  unfolding held_at
  held_now e = rw e

  pub held_cue : eqb x s.t ≡ false → is_in x (kept_by s) ≡ true → held_at i s work x ≡ state_cue i s work (slot_at x s.cues)
  unfolding held_at
  held_cue e f = rw (e, f)

  pub held_none : eqb x s.t ≡ false → is_in x (kept_by s) ≡ false → held_at i s work x ≡ silence i
  unfolding held_at
  held_none e f = rw (e, f)

  -- every such state is one of the three
  pub held_cases : (P : State → Type 0) → (eqb x s.t ≡ true → P (state_now i s work)) → (is_in x (kept_by s) ≡ true → P (state_cue i s work (slot_at x s.cues)))
      → (eqb x s.t ≡ false → is_in x (kept_by s) ≡ false → P (silence i)) → P (held_at i s work x)
  held_cases P now kept none = go (eqb x s.t) refl (is_in x (kept_by s)) refl
    where
      go : (b : Bool) → eqb x s.t ≡ b → (c : Bool) → is_in x (kept_by s) ≡ c → P (held_at i s work x)
      go true e c f = rw (held_now e) (now e)
      go false e true f = rw (held_cue e f) (kept f)
      go false e false f = rw (held_none e f) (none e f)

  module _ (four : length s.cues ≡ 4) where
    -- a kept position's slot
    pub slot_there : is_in x (kept_by s) ≡ true → slot_at x s.cues < 4
    slot_there f = omega (arith, ltb-true (slot_at x s.cues) (length s.cues) (slot_in x s.cues ∙ f))

    pub held_length : valid i ≡ true → 5 * part_cells i ≤ length work → length (held_at i s work x).cells ≡ part_cells i
    held_length ok room =
        held_cases (λ st. length st.cells ≡ part_cells i)
        (λ e. length-take-le (part_cells i) work (omega arith))
        (λ f. part_length ((slot_at x s.cues + 1) * part_cells i) (part_cells i) work
        (slot_fits (slot_at x s.cues) (part_cells i) (length work) (slot_there f) room))
        (λ e f. silent_length i ok)

    -- its count is not above the position, its hammer on a key that is there
    pub held_sound : Passed i s (length work) → sound_piano i.key_count x (held_at i s work x).piano ≡ true
    held_sound p =
        held_cases (λ st. sound_piano i.key_count x st.piano ≡ true)
        (λ e. rw (eqb-true x s.t e) p.now)
        (λ f.
        let l : slot_at x s.cues < length s.cues = omega (arith, slot_there f) in
        let k = slot_kept x s.cues (empty_cue s.piano) l in
        rw k.1 at (cue_sound i.key_count s.cues (slot_at x s.cues) (empty_cue s.piano) p.kept l k.0))
        (λ e f. silent_sound i x)
