-- Each test of a call, where it refuses and where it lets through. Assumes nothing.
use mathlib.Core.Path.{◌≡◌, refl, sym, ◌∙◌}
use mathlib.Core.Bool.{Bool, true, false, cond, ◌&&◌}
use mathlib.Core.List.{List}
use Prim.Native.Nat.{ℕ, ◌+◌, ◌-◌, ◌*◌, ◌≤◌, ◌<◌, max}
use native.Mathlib.Omega.{arith}
use lib.Dec.{eqb, leb, ltb}
use borrow.Author.Tests.{lt-ltb, le-ltb, le-leb, lt-leb, ltb-true, ltb-false, leb-true}
use lib.ListN.{length}
use Rattle.std.specs.Prelude.{position}
use Rattle.std.specs.Option.{is_some}
use Rattle.instrument.specs.declared.Instrument.{Instrument}
use Rattle.instrument.specs.Valid.{valid}
use Rattle.instrument.specs.Work.{part_cells}
use Rattle.score.specs.declared.TimedEvent.{TimedEvent}
use Rattle.positions.specs.Positions.{end, count, is_in, others, up_to, greatest}
use Rattle.positions.specs.Laws.{and_true, count_others, greatest_up_to}
use Rattle.score_edits.specs.Edits.{sound_velocity}
use Rattle.session_cues.specs.declared.Cue.{Cue}
use Rattle.session_cues.specs.Cues.{kept_of, stands_at, is_free}
use Rattle.session_cues.specs.Laws.{found_if, slot_found, kept_length, free_slot_full}
use Rattle.machine.specs.Refusals.{scratch_cells, play_refusal, cue_refusal}
use Rattle.machine.specs.Machine.{start_of}
use Rattle.session_record.specs.declared.Session.{Session}
use Rattle.session_record.specs.Record.{sound_session, work_test, open_refusal, record_refusal}

-- ---- 7 and 8

pub work_short : (i : Instrument) (cells w : ℕ) → w ≡ part_cells i → cells < 5 * w → 8 ≡ work_test i cells
work_short i cells w e h = rw (← e, lt-ltb cells (5 * w) h)

pub work_enough : (i : Instrument) (cells w : ℕ) → w ≡ part_cells i → 5 * w ≤ cells → 0 ≡ work_test i cells
work_enough i cells w e h = rw (← e, le-ltb cells (5 * w) h)

pub open_sound : (i : Instrument) (cells : ℕ) → valid i ≡ true → work_test i cells ≡ open_refusal i cells
unfolding open_refusal
open_sound i cells e = rw e

pub open_wrong : (i : Instrument) (cells : ℕ) → valid i ≡ false → 7 ≡ open_refusal i cells
unfolding open_refusal
open_wrong i cells e = rw e

module _ (i : Instrument) (s : Session) (cells : ℕ) where
  pub record_sound : valid i ≡ true → sound_session i.key_count s ≡ true → work_test i cells ≡ record_refusal i s cells
  unfolding record_refusal
  record_sound e f = rw (e, f)

  pub record_wrong_session : valid i ≡ true → sound_session i.key_count s ≡ false → 7 ≡ record_refusal i s cells
  unfolding record_refusal
  record_wrong_session e f = rw (e, f)

  pub record_wrong_instrument : valid i ≡ false → 7 ≡ record_refusal i s cells
  unfolding record_refusal
  record_wrong_instrument e = rw e

-- ---- play: none of 9, 10 and 11

pub play_0 : (i : Instrument) (t scratch m trace : ℕ) → scratch_cells i ≤ scratch → m ≤ trace → t ≤ end → m ≤ end - t → 0 ≡ play_refusal i t scratch m trace
play_0 i t scratch m trace h9 h10 low h11 = rw (le-ltb scratch (scratch_cells i) h9, le-ltb trace m h10, le-ltb end (t + m) (omega arith))

-- ---- cue: 15

module _ (t : ℕ) (cs : List Cue) (four : length cs ≡ 4) where
  few : others t (kept_of cs) < 4 → 0 ≡ cue_refusal t (kept_of cs)
  few h = rw (lt-leb 4 (others t (kept_of cs)) h)

  -- t is kept already, so that at most three others are
  pub cue_again : is_some (position (stands_at t) cs) ≡ true → 0 ≡ cue_refusal t (kept_of cs)
  cue_again h =
      let m : is_in t (kept_of cs) ≡ true = sym (slot_found t cs) ∙ h in
      few (omega (arith, ltb-true 0 (count (eqb t) (kept_of cs)) m, count_others t (kept_of cs), kept_length cs))

  -- a slot is free, so that at most three are kept
  pub cue_spare : is_some (position is_free cs) ≡ true → 0 ≡ cue_refusal t (kept_of cs)
  cue_spare h =
      let m : ltb (length (kept_of cs)) (length cs) ≡ true = sym (free_slot_full cs) ∙ sym (found_if is_free cs) ∙ h in
      few (omega (arith, ltb-true (length (kept_of cs)) (length cs) m, count_others t (kept_of cs)))

  pub cue_full : is_some (position (stands_at t) cs) ≡ false → is_some (position is_free cs) ≡ false → 15 ≡ cue_refusal t (kept_of cs)
  cue_full h g =
      let m : is_in t (kept_of cs) ≡ false = sym (slot_found t cs) ∙ h in
      let n : ltb (length (kept_of cs)) (length cs) ≡ false = sym (free_slot_full cs) ∙ sym (found_if is_free cs) ∙ g in
      let others_here = count_others t (kept_of cs) in
      rw (le-leb 4 (others t (kept_of cs))
      (omega (arith, ltb-false 0 (count (eqb t) (kept_of cs)) m, ltb-false (length (kept_of cs)) (length cs) n, others_here)))

-- ---- go: where it starts

module _ (t p near : ℕ) (cues : List ℕ) (e : near ≡ greatest (up_to p cues)) where
  start_if : (b : Bool) → leb t p ≡ b → start_of t cues p ≡ cond b (max t (greatest (up_to p cues))) (greatest (up_to p cues))
  unfolding up_to greatest
  start_if true k = rw k
  start_if false k = rw k

  pub start_here : t ≤ p → (m : ℕ) → m ≡ max near t → (m ≡ start_of t cues p) × (m ≤ p)
  start_here h m k = (sym (start_if true (le-leb t p h) ∙ omega arith), omega (arith, greatest_up_to p cues))

  pub start_there : p < t → (near ≡ start_of t cues p) × (near ≤ p)
  start_there h = (e ∙ sym (start_if false (lt-leb t p h)), omega (arith, greatest_up_to p cues))
