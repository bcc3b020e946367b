-- A session's two arrays after a call: 64 places for events, of which the score is the first `count`, and 4 slots for cues, of which one is
-- free where a cue is accepted. Assumes nothing.
use Rattle.std.specs.Prelude.{◌≡◌, false, List, ◌++◌, ℕ, ◌+◌, ◌-◌, ◌<◌, ◌≤◌, eqb, length, take, drop}
use Rattle.std.proofs.Common.{◌∙◌, arith, lt-ltb, ltb-false, ltb-true, length-append, length-drop, take_at, length-take-le}
use Rattle.score.specs.declared.TimedEvent.{TimedEvent}
use Rattle.positions.specs.Positions.{count, is_in, others}
use Rattle.positions.specs.Laws.{count_others}
use Rattle.score_edits.specs.Edits.{placed, removed}
use Rattle.score_edits.specs.Laws.{length_placed, length_removed}
use Rattle.session_cues.specs.declared.Cue.{Cue}
use Rattle.session_cues.specs.Cues.{kept_of, free_slot}
use Rattle.session_cues.specs.Laws.{free_slot_full}
use Rattle.session_record.specs.declared.Session.{Session}
use Rattle.session_record.specs.Record.{score_of}

-- the score's length is the count
pub score_size : (s : Session) → s.count ≤ 64 → length s.events ≡ 64 → length (score_of s) ≡ s.count
score_size s few long = length-take-le s.count s.events (omega (arith, few, long))

-- the score that an insert leaves, in 64 places again
module _ (s : Session) (e : TimedEvent) (few : s.count < 64) (long : length s.events ≡ 64) where
  placed_size : length (placed (score_of s) e) ≡ s.count + 1
  placed_size = omega (arith, length_placed (score_of s) e, score_size s (omega (arith, few)) long)

  pub placed_score : take (s.count + 1) (placed (score_of s) e ++ drop (s.count + 1) s.events) ≡ placed (score_of s) e
  placed_score = take_at (placed (score_of s) e) (drop (s.count + 1) s.events) (s.count + 1) placed_size

  pub placed_long : length (placed (score_of s) e ++ drop (s.count + 1) s.events) ≡ 64
  placed_long = omega (arith, length-append (placed (score_of s) e) (drop (s.count + 1) s.events), length-drop (s.count + 1) s.events, placed_size, long, few)

-- the score that a remove leaves, in 64 places again
module _ (s : Session) (index : ℕ) (there : index < s.count) (few : s.count ≤ 64) (long : length s.events ≡ 64) where
  removed_size : length (removed (score_of s) index) ≡ s.count - 1
  removed_size =
      let n = score_size s few long in
      omega (arith, length_removed (score_of s) index (omega (arith, there, n)), n)

  pub removed_score : take (s.count - 1) (removed (score_of s) index ++ drop (s.count - 1) s.events) ≡ removed (score_of s) index
  removed_score = take_at (removed (score_of s) index) (drop (s.count - 1) s.events) (s.count - 1) removed_size

  pub removed_long : length (removed (score_of s) index ++ drop (s.count - 1) s.events) ≡ 64
  removed_long =
      omega (
        arith,
        length-append (removed (score_of s) index) (drop (s.count - 1) s.events),
        length-drop (s.count - 1) s.events,
        removed_size,
        long,
        few,
        there,
      )

-- a cue that is not kept yet and not refused finds a free slot
pub free_slot_there : (t : ℕ) (cues : List Cue) → length cues ≡ 4 → is_in t (kept_of cues) ≡ false → others t (kept_of cues) < 4 → free_slot cues < 4
free_slot_there t cues four absent few =
    let none = ltb-false 0 (count (eqb t) (kept_of cues)) absent in
    let less : length (kept_of cues) < length cues = omega (arith, four, few, count_others t (kept_of cues), none) in
    omega (arith, four, ltb-true (free_slot cues) (length cues) (free_slot_full cues ∙ lt-ltb (length (kept_of cues)) (length cues) less))
