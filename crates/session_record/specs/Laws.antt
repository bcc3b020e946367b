-- What records that pass refusals 7 and 8 are, and that such records pass; what each call's tests leave true where they all pass. Assumes nothing.
use Rattle.std.specs.Prelude.{◌≡◌, true, not, ◌&&◌, ℕ, ◌+◌, ◌*◌, ◌≤◌, ◌<◌, leb, ltb, Result, Ok, Err}
use Rattle.std.proofs.Common.{sym, ◌∙◌, ap, le-leb, le-ltb, leb-true, ltb-false}
use Rattle.std.proofs.lemmas.Bool.{not-false}
use Rattle.refusal.specs.declared.Refusal.{Refusal}
use Rattle.refusal.specs.Refusal.{number_of, number_in}
use Rattle.instrument.specs.declared.Instrument.{Instrument}
use Rattle.instrument.specs.Valid.{valid}
use Rattle.instrument.specs.Work.{part_cells}
use Rattle.score.specs.declared.TimedEvent.{TimedEvent}
use Rattle.positions.specs.Positions.{end, others}
use Rattle.positions.specs.Laws.{and_true}
use Rattle.score_edits.specs.Edits.{sound_score}
use Rattle.session_cues.specs.Cues.{kept_of, sound_piano, sound_cues}
use Rattle.machine.specs.Refusals.{refuse_if, or_else, scratch_cells, play_refusal, cue_refusal, go_refusal, insert_refusal, remove_refusal}
use Rattle.machine.specs.Machine.{start_of}
use Rattle.machine.specs.Laws.{else_zero, test_passed, play_passed, cue_passed, go_passed, insert_passed, remove_passed}
use Rattle.session_record.specs.declared.Session.{Session}
use Rattle.session_record.specs.Record.{score_of, sound_session, sound_session_to, sound_records, work_test, record_refusal, open_refusal}
use Rattle.session_record.specs.Record.{play_number, cue_number, go_number, insert_number, remove_number}

-- ---- a refusal's number in an answer

module _ {A : Type 0} (r : Result A Refusal) (n : ℕ) (met : number_in r ≡ n) where
  pub refused_number : (e : Refusal) → r ≡ Err e → number_of e ≡ n
  refused_number e is = sym (ap number_in is) ∙ met

  pub passed_zero : (u : A) → r ≡ Ok u → n ≡ 0
  passed_zero u is = sym met ∙ ap number_in is

-- 7 and 8
pub record Passed (i : Instrument) (s : Session) (cells : ℕ) : Type 0 where
  pub sound : valid i ≡ true
  pub few : s.count ≤ 64
  pub inside : s.t ≤ end
  pub score : sound_score (score_of s) ≡ true
  pub now : sound_piano i.key_count s.t s.piano ≡ true
  pub kept : sound_cues i.key_count s.cues ≡ true
  pub room : 5 * part_cells i ≤ cells

pub passed : (i : Instrument) (s : Session) (cells : ℕ) → record_refusal i s cells ≡ 0 → Passed i s cells
unfolding record_refusal sound_session_to
passed i s cells e =
    let keys = i.key_count in
    let a = else_zero (refuse_if (not (sound_records i s)) 7) (work_test i cells) e in
    let b = and_true (valid i) (sound_session keys s) (not-false (sound_records i s) (test_passed (not (sound_records i s)) 6 a.0)) in
    let c = and_true (leb s.count 64) _ b.1 in
    let d = and_true (leb s.t end && sound_score (score_of s) && sound_piano keys s.t s.piano) (sound_cues keys s.cues) c.1 in
    let f = and_true (leb s.t end && sound_score (score_of s)) (sound_piano keys s.t s.piano) d.0 in
    let g = and_true (leb s.t end) (sound_score (score_of s)) f.0 in
    record {
      sound = b.0;
      few = leb-true s.count 64 c.0;
      inside = leb-true s.t end g.0;
      score = g.1;
      now = f.1;
      kept = d.1;
      room = ltb-false cells (5 * part_cells i) (test_passed (ltb cells (5 * part_cells i)) 7 a.1);
    }

pub passes : (i : Instrument) (s : Session) (cells : ℕ) → Passed i s cells → record_refusal i s cells ≡ 0
unfolding record_refusal sound_session_to
passes i s cells p =
    rw (p.sound, le-leb s.count 64 p.few, le-leb s.t end p.inside, p.score, p.now, p.kept, le-ltb cells (5 * part_cells i) p.room)

pub open_passed : (i : Instrument) (cells : ℕ) → open_refusal i cells ≡ 0 → (valid i ≡ true) × (5 * part_cells i ≤ cells)
unfolding open_refusal
open_passed i cells e =
    let a = else_zero (refuse_if (not (valid i)) 7) (work_test i cells) e in
    (not-false (valid i) (test_passed (not (valid i)) 6 a.0), ltb-false cells (5 * part_cells i) (test_passed (ltb cells (5 * part_cells i)) 7 a.1))

-- ---- what each call's tests leave true where they all pass

pub record PlayPassed (i : Instrument) (s : Session) (cells scratch m trace : ℕ) : Type 0 where
  pub records : Passed i s cells
  pub spare : scratch_cells i ≤ scratch
  pub forces : m ≤ trace
  pub stops : s.t + m ≤ end

pub record CuePassed (i : Instrument) (s : Session) (cells : ℕ) : Type 0 where
  pub records : Passed i s cells
  pub free : others s.t (kept_of s.cues) < 4

pub record GoPassed (i : Instrument) (s : Session) (cells scratch p : ℕ) : Type 0 where
  pub records : Passed i s cells
  pub spare : scratch_cells i ≤ scratch
  pub stops : p ≤ end

pub record InsertPassed (i : Instrument) (s : Session) (cells : ℕ) : Type 0 where
  pub records : Passed i s cells
  pub place : s.count < 64

pub record RemovePassed (i : Instrument) (s : Session) (cells index : ℕ) : Type 0 where
  pub records : Passed i s cells
  pub there : index < s.count

module _ (i : Instrument) (s : Session) (cells : ℕ) where
  both : (b : ℕ) → or_else (record_refusal i s cells) b ≡ 0 → Passed i s cells × (b ≡ 0)
  both b e = let a = else_zero (record_refusal i s cells) b e in (passed i s cells a.0, a.1)

  pub passed_play : (scratch m trace : ℕ) → play_number i s cells scratch m trace ≡ 0 → PlayPassed i s cells scratch m trace
  passed_play scratch m trace e =
      let a = both (play_refusal i s.t scratch m trace) e in
      let b = play_passed i s.t scratch m trace a.1 in
      record { records = a.0; spare = b.0; forces = b.1; stops = b.2 }

  pub passed_cue : cue_number i s cells ≡ 0 → CuePassed i s cells
  passed_cue e =
      let a = both (cue_refusal s.t (kept_of s.cues)) e in
      record { records = a.0; free = cue_passed s.t (kept_of s.cues) a.1 }

  pub passed_go : (scratch p : ℕ) → go_number i s cells scratch p ≡ 0 → GoPassed i s cells scratch p
  passed_go scratch p e =
      let start = start_of s.t (kept_of s.cues) p in
      let a = both (go_refusal i scratch p start) e in
      let b = go_passed i scratch p start a.1 in
      record { records = a.0; spare = b.0; stops = b.1 }

  pub passed_insert : (x : TimedEvent) → insert_number i s cells x ≡ 0 → InsertPassed i s cells
  passed_insert x e =
      let a = both (insert_refusal s.count x) e in
      record { records = a.0; place = (insert_passed s.count x a.1).1 }

  pub passed_remove : (index : ℕ) → remove_number i s cells index ≡ 0 → RemovePassed i s cells index
  passed_remove index e =
      let a = both (remove_refusal s.count index) e in
      record { records = a.0; there = remove_passed s.count index a.1 }
