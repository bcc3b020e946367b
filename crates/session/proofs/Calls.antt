-- What each call leaves to show once its tests have passed: that it may use the renderer or copy a part, and that what it gives is what it
-- promises. Assumes nothing.
use mathlib.Core.Path.{◌≡◌, refl, sym, ◌∙◌, ap}
use mathlib.Core.Bool.{Bool, true, false}
use Rattle.std.specs.Prelude.{Result, Ok, Option, Some, is_some, position}
use Rattle.refusal.specs.declared.Refusal.{Refusal}
use Rattle.refusal.specs.Refusal.{number_in}
use mathlib.Core.Logic.{inr}
use mathlib.Core.List.{List, ◌++◌, map, append-nil}
use Prim.Native.Nat.{ℕ, ◌+◌, ◌-◌, ◌*◌, ◌<◌, ◌≤◌}
use native.Mathlib.Omega.{arith}
use lib.Dec.{eqb}
use borrow.Author.Tests.{lt-ltb, le-ltb, le-leb, ltb-true, ltb-false}
use lib.Ieee.{Float}
use lib.ListN.{length, take, drop, get_or, set, replicate, drop_of_length-le}
use lib.Seq.{take_at, drop_at, length-take-le, get_or-take, sets, sets-eq}
use native.Mathlib.Nat.{zero-add}
use Rattle.float.specs.Float.{zero as zero_cell}
use Rattle.cells.specs.Copy.{Apart}
use Rattle.cells.specs.Splice.{part, splice}
use Rattle.instrument.specs.declared.Instrument.{Instrument}
use Rattle.instrument.specs.Work.{part_cells}
use Rattle.instrument.specs.Valid.{valid}
use Rattle.score.specs.declared.Piano.{Piano}
use Rattle.score.specs.declared.TimedEvent.{TimedEvent}
use Rattle.render.specs.declared.Run.{Run}
use Rattle.score.specs.Events.{State}
use Rattle.score.specs.Score.{no_event}
use Rattle.score.specs.Contacts.{Totals, contacts_of}
use Rattle.render.specs.Render.{PianoAt, Renderable, Rendered, rendering_of, unstarted, silence, run, samples, forces}
use Rattle.render.specs.Laws.{samples_length, forces_few, run_contact}
use Rattle.render.specs.Work.{valid_renderable}
use Rattle.positions.specs.Positions.{end, count, is_in, above}
use Rattle.positions.specs.Laws.{count_others, true_or_false}
use Rattle.score_edits.specs.Edits.{removed}
use Rattle.machine.specs.Refusals.{scratch_cells}
use Rattle.machine.specs.Machine.{start_of, settled}
use Rattle.session_cues.specs.declared.Cue.{Cue}
use Rattle.session_cues.specs.Cues.{stands_at, is_free, free_slot, drop_above, sound_piano}
use Rattle.session_cues.specs.Laws.{found_if, found_at, slot_found, free_slot_full}
use Rattle.session_record.specs.declared.Session.{Session}
use Rattle.session_record.specs.Record.{score_of, play_number, cue_number, go_number, insert_number, remove_number}
use Rattle.session_record.specs.Laws.{Passed, PlayPassed, CuePassed, GoPassed, InsertPassed, RemovePassed, passed_play, passed_cue, passed_go}
use Rattle.session_record.specs.Laws.{passed_insert, passed_remove, passed_zero}
use Rattle.session.specs.declared.Answer.TheVariants.{Played, Cued, Went, Edited}
use Rattle.session.specs.declared.Outcome.{Outcome}
use Rattle.session.specs.Calls.{kept_by, held_at, Plays, Cues, Goes, Edits, Removes, Restores}
use Rattle.session.specs.Laws.{slot_fits, slot_past, sound_for_render, silent_cells, held_length, held_sound}

-- ---- a call that is not refused has passed its tests

module _ (i : Instrument) (s : Session) (work : List Float) {A : Type 0} (r : Result A Refusal) (u : A) (is : r ≡ Ok u) where
  pub play_tested : (spare out trace : List Float) → number_in r ≡ play_number i s (length work) (length spare) (length out) (length trace)
      → PlayPassed i s (length work) (length spare) (length out) (length trace)
  play_tested spare out trace e =
      passed_play i s (length work) (length spare) (length out) (length trace)
      (passed_zero r (play_number i s (length work) (length spare) (length out) (length trace)) e u is)

  pub cue_tested : number_in r ≡ cue_number i s (length work) → CuePassed i s (length work)
  cue_tested e = passed_cue i s (length work) (passed_zero r (cue_number i s (length work)) e u is)

  pub go_tested : (spare : List Float) (p : ℕ) → number_in r ≡ go_number i s (length work) (length spare) p → GoPassed i s (length work) (length spare) p
  go_tested spare p e = passed_go i s (length work) (length spare) p (passed_zero r (go_number i s (length work) (length spare) p) e u is)

  pub insert_tested : (x : TimedEvent) → number_in r ≡ insert_number i s (length work) x → InsertPassed i s (length work)
  insert_tested x e = passed_insert i s (length work) x (passed_zero r (insert_number i s (length work) x) e u is)

  pub remove_tested : (index : ℕ) → number_in r ≡ remove_number i s (length work) index → RemovePassed i s (length work) index
  remove_tested index e = passed_remove i s (length work) index (passed_zero r (remove_number i s (length work) index) e u is)

-- ---- what the calls share

-- silence in the first part
pub silenced : (i : Instrument) (work : List Float) → valid i ≡ true → 5 * part_cells i ≤ length work → (w : ℕ) → w ≡ part_cells i → (cells : List Float)
    → cells ≡ replicate (length (take w work)) zero_cell → cells ++ drop w work ≡ (silence i).cells ++ drop (part_cells i) work
silenced i work ok room w ew cells e =
    let size : length (take w work) ≡ part_cells i = length-take-le w work (omega arith) ∙ ew in
    rw ew (ap (λ c. c ++ drop (part_cells i) work) (silent_cells i ok (take w work) cells size e))

-- what records that pass 7 and 8 let the renderer have: a state that can be held for t, samples that end in time, W cells and scratch
pub ready : (i : Instrument) (s : Session) (cells : ℕ) → Passed i s cells → (t m : ℕ) (part spare : List Float) (piano : Piano)
    → sound_piano i.key_count t piano ≡ true
    → t + m ≤ end → length part ≡ part_cells i → scratch_cells i ≤ length spare
    → Renderable i part spare × (s.count ≤ 64) × PianoAt i.key_count piano t × (t + m < 18446744073709551616)
unfolding scratch_cells
ready i s cells p t m part spare piano ok top size enough =
    (valid_renderable i p.sound part spare (omega arith) (omega arith), p.few, sound_for_render i.key_count t piano ok, omega arith)

-- what was stored: all of a buffer, or its front
stored_front : (l vs l' : List Float) → l' ≡ sets l 0 vs → length vs ≤ length l → l' ≡ vs ++ drop (length vs) l
stored_front l vs l' e h = e ∙ sets-eq vs l 0 (omega arith) ∙ ap (λ n. vs ++ drop n l) (zero-add (length vs))

stored_all : (l vs l' : List Float) → l' ≡ sets l 0 vs → length vs ≡ length l → l' ≡ vs
stored_all l vs l' e h =
    stored_front l vs l' e (omega arith) ∙ ap (λ x. vs ++ x) (drop_of_length-le l {i = length vs} (omega arith)) ∙ append-nil vs

-- ---- play

module _ (i : Instrument) (s : Session) (work spare out trace : List Float)
    (p : PlayPassed i s (length work) (length spare) (length out) (length trace)) (w : ℕ) (ew : w ≡ part_cells i) where
  pub play_ready : Renderable i (take w work) spare × (s.count ≤ 64) × PianoAt i.key_count s.piano s.t × (s.t + length out < 18446744073709551616)
  play_ready =
      let size = length-take-le w work (omega (arith, p.records.room)) ∙ ew in
      ready i s (length work) p.records s.t (length out) (take w work) spare s.piano p.records.now p.stops size p.spare

  -- the renderer's counts have a sum that is not above the new position
  pub counted : (r : Run) (part' out' trace' : List Float) (total : Option ℕ)
      → Rendered i (score_of s) s.t (length out) (unstarted s.piano (take w work) out trace) (rendering_of r part' out' trace')
      → Totals i.key_count r.piano.contact_samples (s.t + length out) total → is_some total ≡ true
  unfolding contacts_of
  counted r part' out' trace' total b c =
      let st : State = record { piano = s.piano; cells = take w work } in
      let after : r.piano ≡ (run i (score_of s) s.t (length out) st).piano = ap (λ x. x.piano) b.state in
      let low = rw (← after) at (run_contact i (score_of s) i.key_count s.t (length out) st) in
      let start = play_ready.2.within in
      c.within ∙ le-leb (contacts_of i.key_count r.piano) (s.t + length out) (omega (arith, low, start))

  -- what the renderer gave for all of the output, with its counts' sum, is the call's promise
  pub plays : (r : Run) (part' out' trace' : List Float) (total : Option ℕ) (n : ℕ)
      → Rendered i (score_of s) s.t (length out) (unstarted s.piano (take w work) out trace) (rendering_of r part' out' trace')
      → Totals i.key_count r.piano.contact_samples (s.t + length out) total → total ≡ Some n
      → Plays i s work out trace
      (record {
        answer = Ok (Played r.pushed n);
        session = record { t = s.t + length out; count = s.count; events = s.events; cues = s.cues; piano = r.piano };
      })
      (part' ++ drop w work) out' trace'
  unfolding contacts_of
  plays r part' out' trace' total n b c found =
      let st : State = record { piano = s.piano; cells = take w work } in
      let vs = samples i (score_of s) s.t (length out) st in
      let fs = forces i (score_of s) s.t (length out) st in
      let after : r.piano ≡ (run i (score_of s) s.t (length out) st).piano = ap (λ x. x.piano) b.state in
      let sum = rw found at c.sum in
      record {
        answer = rw (← ew) (ap (λ k. Ok (Played k n)) b.forced ∙ ap (λ m. Ok (Played (length fs) m)) (sum ∙ ap (contacts_of i.key_count) after));
        session = rw (← ew) (ap (λ x. record { t = s.t + length out; count = s.count; events = s.events; cues = s.cues; piano = x.piano }) b.state);
        memory = rw (← ew) (ap (λ x. x.cells ++ drop w work) b.state);
        sound = rw (← ew) (stored_all out vs out' b.outs (samples_length i (score_of s) s.t (length out) st));
        pushes = rw (← ew) (stored_front trace fs trace' b.traced (omega (arith, forces_few i (score_of s) s.t (length out) st, p.forces)));
      }

-- ---- cue

module _ (i : Instrument) (s : Session) (work : List Float) (p : CuePassed i s (length work)) (four : length s.cues ≡ 4)
    (again : Bool) (ea : is_some (position (stands_at s.t) s.cues) ≡ again) where
  kept : is_in s.t (kept_by s) ≡ again
  kept = sym (slot_found s.t s.cues) ∙ ea

  pub cue_again : again ≡ true → Cues i s work (record { answer = Ok Cued; session = s }) work
  cue_again h = record { answer = refl; again = λ f. (refl, refl); adds = λ f. true_or_false (is_in s.t (kept_by s)) (kept ∙ h) f }

  module _ (h : again ≡ false) where
    absent : is_in s.t (kept_by s) ≡ false
    absent = kept ∙ h

    -- fewer than four others are kept and t is not, so that a slot is free
    pub cue_free : is_some (position is_free s.cues) ≡ true
    cue_free =
        let others = count_others s.t (kept_by s) in
        let less : length (kept_by s) < length s.cues = omega (arith, p.free, ltb-false 0 (count (eqb s.t) (kept_by s)) absent) in
        found_if is_free s.cues ∙ free_slot_full s.cues ∙ lt-ltb (length (kept_by s)) (length s.cues) less

  module _ (h : again ≡ false) (slot : ℕ) (found : position is_free s.cues ≡ Some slot) where
    pub cue_slot : slot < 4
    cue_slot = omega (arith, (found_at is_free s.cues slot found).1)

    es : slot ≡ free_slot s.cues
    es = (found_at is_free s.cues slot found).0

    module _ (w : ℕ) (ew : w ≡ part_cells i) where
      -- its part lies in the memory and apart from the first
      pub cue_apart : Apart (length work) ((slot + 1) * w) 0 w
      cue_apart =
          let room : 5 * w ≤ length work = omega (arith, p.records.room) in
          record { goes = slot_fits slot w (length work) cue_slot room; comes = omega arith; apart = inr (omega (arith, slot_past slot w)) }

      pub cue_added : (work' : List Float) → work' ≡ splice ((slot + 1) * w) w (part 0 w work) work
          → Cues i s work
          (record {
            answer = Ok Cued;
            session = record {
              t = s.t;
              count = s.count;
              events = s.events;
              cues = set s.cues slot (record { kept = true; position = s.t; piano = s.piano });
              piano = s.piano;
            };
          })
          work'
      cue_added work' g =
          record { answer = refl; again = λ f. true_or_false (is_in s.t (kept_by s)) f (absent h); adds = λ f. (rw es refl, rw (← es, ← ew) g) }

-- ---- go

-- after the state held for the start was brought into the first part
module _ (i : Instrument) (s : Session) (work spare : List Float) (q : ℕ) (p : GoPassed i s (length work) (length spare) q) (four : length s.cues ≡ 4)
    (start : ℕ) (es : start ≡ start_of s.t (kept_by s) q) (low : start ≤ q) (piano : Piano) (work₁ : List Float) (rs : Restores i s work start piano work₁)
    (same : length work₁ ≡ length work) (w : ℕ) (ew : w ≡ part_cells i) where
  abbrev held : State
  held = held_at i s work start

  held_cells : length held.cells ≡ part_cells i
  held_cells = held_length i s work start four p.records.sound p.records.room

  front : take w work₁ ≡ held.cells
  front = rw (ew, rs.memory) (take_at held.cells (drop (part_cells i) work) (part_cells i) held_cells)

  behind : drop w work₁ ≡ drop (part_cells i) work
  behind = rw (ew, rs.memory) (drop_at held.cells (drop (part_cells i) work) (part_cells i) held_cells)

  pub go_ready : Renderable i (take w work₁) spare × (s.count ≤ 64) × PianoAt i.key_count piano start × (start + (q - start) < 18446744073709551616)
  go_ready =
      let sound : sound_piano i.key_count start piano ≡ true = rw rs.piano (held_sound i s work start four p.records) in
      let size = length-take-le w work₁ (omega (arith, p.records.room)) ∙ ew in
      ready i s (length work) p.records start (q - start) (take w work₁) spare piano sound (omega (arith, p.stops)) size p.spare

  -- the state after the replayed samples, and their number, are the call's promise
  pub goes : (after : Piano) (part' : List Float) (done : ℕ)
      → record { piano = after; cells = part' } ≡ run i (score_of s) start (q - start) (record { piano = piano; cells = take w work₁ }) → done ≡ q - start
      → Goes i s work q (start_of s.t (kept_by s) q)
      (record { answer = Ok (Went done); session = record { t = q; count = s.count; events = s.events; cues = s.cues; piano = after } })
      (part' ++ drop w work₁)
  goes after part' done e n =
      let st : record { piano = after; cells = part' } ≡ run i (score_of s) start (q - start) held = e ∙ rw (rs.piano, front) refl in
      record {
        answer = rw (← es) (ap (λ m. Ok (Went m)) n);
        session = rw (← es) (ap (λ x. record { t = q; count = s.count; events = s.events; cues = s.cues; piano = x.piano }) st);
        memory = rw (← es, behind) (ap (λ x. x.cells ++ drop (part_cells i) work) st);
      }

-- ---- insert and remove

pub edited : (i : Instrument) (s : Session) (work : List Float) (q number : ℕ) (left : List TimedEvent) (t dropped : ℕ) (piano : Piano)
    (cues : List Cue) (work' : List Float)
    → t ≡ settled s.t (kept_by s) q → dropped ≡ above q (kept_by s) → cues ≡ map (drop_above q) s.cues → Restores i s work t piano work'
    → Edits i s work q number left
    (record { answer = Ok (Edited t dropped); session = record { t = t; count = number; events = left; cues = cues; piano = piano } })
    work'
edited i s work q number left t dropped piano cues work' et ed ec rs =
    record { answer = rw (← et, ed); session = rw (← et, ec, rs.piano); memory = rw (← et) rs.memory }

-- the event at the index is the score's
pub removes : (i : Instrument) (s : Session) (work : List Float) (index : ℕ) → index < s.count → (events : List TimedEvent) (r : Outcome) (work' : List Float)
    → events ≡ removed (score_of s) index ++ drop (s.count - 1) s.events
    → Edits i s work (get_or s.events index no_event).position (s.count - 1) events r work' → Removes i s work index r work'
removes i s work index there events r work' ev d = rw (get_or-take s.count s.events index no_event there) (rw ev at d)
