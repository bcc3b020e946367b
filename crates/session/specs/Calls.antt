-- Document 01, "The session": what each call promises, by equation: its answer, the session, and every cell of work memory, output and
-- trace afterwards. Scratch is free in an accepted call, and a refused one leaves it. Which part holds which cue is fixed: slot j in part
-- j + 1. Definitions only: assumes nothing.
use Rattle.std.specs.Prelude.{◌≡◌, true, false, cond, List, ◌++◌, map, ℕ, ◌+◌, ◌-◌, ◌*◌, eqb, Float, length, take, drop, get_or, set, replicate, Ok, Err}
use Rattle.cells.specs.Splice.{part, splice}
use Rattle.counting.specs.Meets.{Meets}
use Rattle.refusal.specs.Refusal.{numbered}
use Rattle.instrument.specs.declared.Instrument.{Instrument}
use Rattle.instrument.specs.Work.{part_cells}
use Rattle.score.specs.declared.Event.TheVariants.{Pedal}
use Rattle.score.specs.declared.TimedEvent.{TimedEvent}
use Rattle.score.specs.declared.Piano.{Piano}
use Rattle.score.specs.Events.{State}
use Rattle.score.specs.Score.{no_event}
use Rattle.score.specs.Contacts.{contacts_of}
use Rattle.render.specs.Render.{silent_piano, silence, run, samples, forces}
use Rattle.positions.specs.Positions.{is_in, above}
use Rattle.score_edits.specs.Edits.{placed, removed}
use Rattle.machine.specs.Machine.{start_of, settled}
use Rattle.session_cues.specs.declared.Cue.{Cue}
use Rattle.session_cues.specs.Cues.{kept_of, slot_at, free_slot, drop_above}
use Rattle.session_record.specs.declared.Session.{Session}
use Rattle.session_record.specs.Record.{score_of, open_refusal, play_number, cue_number, go_number, insert_number, remove_number}
use Rattle.session.specs.declared.Answer.TheVariants.{Opened, Played, Cued, Went, Edited}
use Rattle.session.specs.declared.Outcome.{Outcome}

-- ---- what a session and its memory hold

abbrev pub kept_by : Session → List ℕ
kept_by s = kept_of s.cues

-- a slot that keeps nothing
abbrev pub empty_cue : Piano → Cue
empty_cue p = record { kept = false; position = 0; piano = p }

abbrev pub cue_at : Session → ℕ → Cue
cue_at s j = get_or s.cues j (empty_cue s.piano)

-- "Work memory is five parts of W cells: the piano now, then four for cues."
abbrev pub state_now : Instrument → Session → List Float → State
state_now i s work = record { piano = s.piano; cells = take (part_cells i) work }

abbrev pub state_cue : Instrument → Session → List Float → ℕ → State
state_cue i s work j = record { piano = (cue_at s j).piano; cells = part ((j + 1) * part_cells i) (part_cells i) work }

-- the state held for a position: the piano now where it stands there, else the kept cue's, else silence
unfoldable pub held_at : Instrument → Session → List Float → ℕ → State
held_at i s work x = cond (eqb x s.t) (state_now i s work) (cond (is_in x (kept_by s)) (state_cue i s work (slot_at x s.cues)) (silence i))

-- "A refusal returns its number alone and alters nothing."
abbrev pub refused_with : Session → ℕ → Outcome
refused_with s n = record { answer = Err (numbered n); session = s }

abbrev pub Refuses : Session → (work : List Float) → Outcome → (work' : List Float) → ℕ → Type 0
Refuses s work r work' n = (r ≡ refused_with s n) × (work' ≡ work)

-- Demand 1: a refused call "changes no record and no buffer". Of scratch, before and after a call of that number; in an accepted call its
-- cells are free
abbrev pub ScratchStays : ℕ → (scratch scratch' : List Float) → Type 0
ScratchStays number scratch scratch' = (number ≡ 0 → ⊥) → scratch' ≡ scratch

-- ---- open

abbrev pub fresh_session : Piano → Session
fresh_session p =
    record { t = 0; count = 0; events = replicate 64 (record { position = 0; event = Pedal false }); cues = replicate 4 (empty_cue p); piano = p }

abbrev pub OpenMeets : Instrument → List Float → Outcome → List Float → Type 0
OpenMeets i work r work' =
    Meets (open_refusal i (length work)) (Refuses (fresh_session silent_piano) work r work')
    ((r ≡ record { answer = Ok Opened; session = fresh_session silent_piano }) × (work' ≡ (silence i).cells ++ drop (part_cells i) work))

-- ---- play

pub record Plays (i : Instrument) (s : Session) (work out trace : List Float) (r : Outcome) (work' out' trace' : List Float) : Type 0 where
  pub answer : r.answer
      ≡ Ok (
      Played (length (forces i (score_of s) s.t (length out) (state_now i s work)))
      (contacts_of i.key_count (run i (score_of s) s.t (length out) (state_now i s work)).piano)
      )
  pub session : r.session
      ≡ record {
        t = s.t + length out;
        count = s.count;
        events = s.events;
        cues = s.cues;
        piano = (run i (score_of s) s.t (length out) (state_now i s work)).piano;
      }
  pub memory : work' ≡ (run i (score_of s) s.t (length out) (state_now i s work)).cells ++ drop (part_cells i) work
  pub sound : out' ≡ samples i (score_of s) s.t (length out) (state_now i s work)
  pub pushes : trace'
      ≡ forces i (score_of s) s.t (length out) (state_now i s work) ++ drop (length (forces i (score_of s) s.t (length out) (state_now i s work))) trace

-- of scratch the length alone: what stood in it decides nothing
abbrev pub PlayMeets : Instrument → Session → (work : List Float) (scratch : ℕ) (out trace : List Float) → Outcome → (work' out' trace' : List Float) → Type 0
PlayMeets i s work scratch out trace r work' out' trace' =
    Meets (play_number i s (length work) scratch (length out) (length trace)) (λ n. (r ≡ refused_with s n) × (work' ≡ work) × (out' ≡ out) × (trace' ≡ trace))
    (Plays i s work out trace r work' out' trace')

-- ---- cue

-- "adds t; if t is kept already, no change": a new cue goes into the first free slot, its cells into that slot's part
pub record Cues (i : Instrument) (s : Session) (work : List Float) (r : Outcome) (work' : List Float) : Type 0 where
  pub answer : r.answer ≡ Ok Cued
  pub again : is_in s.t (kept_by s) ≡ true → (r.session ≡ s) × (work' ≡ work)
  pub adds : is_in s.t (kept_by s) ≡ false
      → (r.session
      ≡ record {
        t = s.t;
        count = s.count;
        events = s.events;
        cues = set s.cues (free_slot s.cues) (record { kept = true; position = s.t; piano = s.piano });
        piano = s.piano;
      })
      × (work' ≡ splice ((free_slot s.cues + 1) * part_cells i) (part_cells i) (take (part_cells i) work) work)

abbrev pub CueMeets : Instrument → Session → List Float → Outcome → List Float → Type 0
CueMeets i s work r work' = Meets (cue_number i s (length work)) (Refuses s work r work') (Cues i s work r work')

-- ---- go

-- "that many samples take a state held for the start, whatever its floats, or silence where none is held, to the state left"
pub record Goes (i : Instrument) (s : Session) (work : List Float) (p start : ℕ) (r : Outcome) (work' : List Float) : Type 0 where
  pub answer : r.answer ≡ Ok (Went (p - start))
  pub session : r.session
      ≡ record {
        t = p;
        count = s.count;
        events = s.events;
        cues = s.cues;
        piano = (run i (score_of s) start (p - start) (held_at i s work start)).piano;
      }
  pub memory : work' ≡ (run i (score_of s) start (p - start) (held_at i s work start)).cells ++ drop (part_cells i) work

abbrev pub GoMeets : Instrument → Session → (work : List Float) (scratch p : ℕ) → Outcome → List Float → Type 0
GoMeets i s work scratch p r work' =
    Meets (go_number i s (length work) scratch p) (Refuses s work r work') (Goes i s work p (start_of s.t (kept_by s) p) r work')

-- ---- insert and remove; past the score the events stay

-- "Both edits drop cues above q. If t > q, t becomes the greatest kept cue ≤ q, else 0. Each returns t and the number dropped."
pub record Edits (i : Instrument) (s : Session) (work : List Float) (q number : ℕ) (left : List TimedEvent) (r : Outcome) (work' : List Float) : Type 0 where
  pub answer : r.answer ≡ Ok (Edited (settled s.t (kept_by s) q) (above q (kept_by s)))
  pub session : r.session
      ≡ record {
        t = settled s.t (kept_by s) q;
        count = number;
        events = left;
        cues = map (drop_above q) s.cues;
        piano = (held_at i s work (settled s.t (kept_by s) q)).piano;
      }
  pub memory : work' ≡ (held_at i s work (settled s.t (kept_by s) q)).cells ++ drop (part_cells i) work

abbrev pub Inserts : Instrument → Session → List Float → TimedEvent → Outcome → List Float → Type 0
Inserts i s work e r work' = Edits i s work e.position (s.count + 1) (placed (score_of s) e ++ drop (s.count + 1) s.events) r work'

abbrev pub InsertMeets : Instrument → Session → List Float → TimedEvent → Outcome → List Float → Type 0
InsertMeets i s work e r work' = Meets (insert_number i s (length work) e) (Refuses s work r work') (Inserts i s work e r work')

abbrev pub Removes : Instrument → Session → List Float → (index : ℕ) → Outcome → List Float → Type 0
Removes i s work index r work' =
    Edits i s work (get_or (score_of s) index no_event).position (s.count - 1) (removed (score_of s) index ++ drop (s.count - 1) s.events) r work'

abbrev pub RemoveMeets : Instrument → Session → List Float → (index : ℕ) → Outcome → List Float → Type 0
RemoveMeets i s work index r work' = Meets (remove_number i s (length work) index) (Refuses s work r work') (Removes i s work index r work')

-- ---- between them

-- the held state is brought into the first part
pub record Restores (i : Instrument) (s : Session) (work : List Float) (x : ℕ) (r : Piano) (work' : List Float) : Type 0 where
  pub piano : r ≡ (held_at i s work x).piano
  pub memory : work' ≡ (held_at i s work x).cells ++ drop (part_cells i) work
