-- Document 01, "Delivery is taken when": "Cells of work memory beyond 5W never change", neither by open nor by any list of calls. Assumes nothing.
use Rattle.std.specs.Prelude.{◌≡◌, refl, Bool, true, false, List, ℕ, zero, suc, ◌-◌, ◌*◌, Float, length, take, drop}
use Rattle.std.proofs.Common.{◌∙◌, ap, arith, length-set, length-take-le}
use Rattle.std.proofs.lemmas.List.{length-map}
use Rattle.instrument.specs.declared.Instrument.{Instrument}
use Rattle.instrument.specs.Work.{part_cells}
use Rattle.score.specs.declared.TimedEvent.{TimedEvent}
use Rattle.render.specs.Render.{silence, run}
use Rattle.positions.specs.Positions.{is_in}
use Rattle.machine.specs.Machine.{Call, Reply, start_of, settled}
use Rattle.session_cues.specs.Cues.{free_slot, drop_above}
use Rattle.session_record.specs.declared.Session.{Session}
use Rattle.session_record.specs.Record.{score_of, open_refusal}
use Rattle.session_record.specs.Laws.{Passed, CuePassed, open_passed, passed_play, passed_cue, passed_go, passed_insert, passed_remove}
use Rattle.session.specs.declared.Outcome.{Outcome}
use Rattle.session.specs.Calls.{kept_by, state_now, held_at, refused_with, OpenMeets, Cues, Edits}
use Rattle.session.specs.Laws.{silent_length, held_length}
use Rattle.session_theorem.specs.Runs.{CallMeets, Runs}
use Rattle.session_theorem.specs.Memory.{run_cells, front_beyond, slot_beyond}
use Rattle.session_theorem.specs.Arrays.{free_slot_there}

-- the cells beyond the five parts are as they were
abbrev pub Untouched : Instrument → List Float → List Float → Type 0
Untouched i work work' = drop (5 * part_cells i) work' ≡ drop (5 * part_cells i) work

pub open_beyond_stays : (i : Instrument) (work : List Float) (r : Outcome) (work' : List Float) → OpenMeets i work r work' → Untouched i work work'
open_beyond_stays i work r work' h = go (open_refusal i (length work)) refl
  where
    go : (n : ℕ) → open_refusal i (length work) ≡ n → Untouched i work work'
    go zero z =
        let fine = open_passed i (length work) z in
        front_beyond (part_cells i) (silence i).cells work work' (h.accepts z).1 (silent_length i fine.0) fine.1
    go (suc n) z = ap (drop (5 * part_cells i)) (h.refuses (λ k. omega (arith, k, z))).1

-- what a call leaves of a session with four slots, as every session has: four slots, and the cells beyond
record Leaves (i : Instrument) (work : List Float) (r : Outcome) (work' : List Float) : Type 0 where
  pub beyond : Untouched i work work'
  pub four : length r.session.cues ≡ 4

module _ (i : Instrument) (s : Session) (work : List Float) (four : length s.cues ≡ 4) where
  abbrev W : ℕ
  W = part_cells i

  by_refusal : (n : ℕ) (r : Outcome) (work' : List Float) → ((n ≡ 0 → ⊥) → (r ≡ refused_with s n) × (work' ≡ work)) → (n ≡ 0 → Leaves i work r work')
      → Leaves i work r work'
  by_refusal zero r work' refuses accepts = accepts refl
  by_refusal (suc n) r work' refuses accepts = let k = refuses (λ z. omega arith) in rw (k.0, k.1) (record { beyond = refl; four = four })

  cue_leaves : (r : Outcome) (work' : List Float) → CuePassed i s (length work) → Cues i s work r work' → Leaves i work r work'
  cue_leaves r work' p d = go (is_in s.t (kept_by s)) refl
    where
      go : (b : Bool) → is_in s.t (kept_by s) ≡ b → Leaves i work r work'
      go true e = let k = d.again e in rw (k.0, k.1) (record { beyond = refl; four = four })
      go false e =
          let k = d.adds e in
          let slot = free_slot s.cues in
          record {
            beyond = slot_beyond W slot (take W work) work work' k.1 (length-take-le W work (omega (arith, p.records.room)))
                (free_slot_there s.t s.cues four e p.free) p.records.room;
            four = rw k.0 (length-set s.cues slot _ ∙ four);
          }

  edit_leaves : (q number : ℕ) (left : List TimedEvent) (r : Outcome) (work' : List Float) → Passed i s (length work)
      → Edits i s work q number left r work' → Leaves i work r work'
  edit_leaves q number left r work' p d =
      let t' = settled s.t (kept_by s) q in
      record {
        beyond = front_beyond W (held_at i s work t').cells work work' d.memory (held_length i s work t' four p.sound p.room) p.room;
        four = rw d.session (length-map s.cues (drop_above q) ∙ four);
      }

  call_leaves : (c : Call) (out trace : List Float) (r : Outcome) (work' out' trace' : List Float)
      → CallMeets i s work c out trace r work' out' trace' → Leaves i work r work'
  call_leaves (Call.play scratch m n) out trace r work' out' trace' h =
      by_refusal _ r work' (λ z. let k = h.2.refuses z in (k.0, k.1))
      (λ z.
      let d = h.2.accepts z in
      let p = (passed_play i s (length work) scratch (length out) (length trace) z).records in
      let size = run_cells i p.sound (score_of s) s.t (length out) (state_now i s work) (length-take-le W work (omega (arith, p.room))) in
      record {
        beyond = front_beyond W (run i (score_of s) s.t (length out) (state_now i s work)).cells work work' d.memory size p.room;
        four = rw d.session four;
      })
  call_leaves Call.cue out trace r work' out' trace' h =
      by_refusal _ r work' h.refuses (λ z. cue_leaves r work' (passed_cue i s (length work) z) (h.accepts z))
  call_leaves (Call.go scratch q) out trace r work' out' trace' h =
      by_refusal _ r work' h.refuses
      (λ z.
      let d = h.accepts z in
      let p = (passed_go i s (length work) scratch q z).records in
      let start = start_of s.t (kept_by s) q in
      let size = run_cells i p.sound (score_of s) start (q - start) (held_at i s work start) (held_length i s work start four p.sound p.room) in
      record {
        beyond = front_beyond W (run i (score_of s) start (q - start) (held_at i s work start)).cells work work' d.memory size p.room;
        four = rw d.session four;
      })
  call_leaves (Call.insert e) out trace r work' out' trace' h =
      by_refusal _ r work' h.refuses (λ z. edit_leaves e.position _ _ r work' (passed_insert i s (length work) e z).records (h.accepts z))
  call_leaves (Call.remove index) out trace r work' out' trace' h =
      by_refusal _ r work' h.refuses (λ z. edit_leaves _ _ _ r work' (passed_remove i s (length work) index z).records (h.accepts z))

-- whatever is called, from any session
pub beyond_stays : (i : Instrument) {s s' : Session} {work work' : List Float} {cs : List Call} {rs : List Reply}
    → Runs i s work cs rs s' work' → length s.cues ≡ 4 → Untouched i work work'
beyond_stays i Runs.done four = refl
beyond_stays i (Runs.next {s = s} {work = work} c out trace r work' out' trace' h rest) four =
    let k = call_leaves i s work four c out trace r work' out' trace' h in
    beyond_stays i rest k.four ∙ k.beyond
