-- Document 02, W8: "A session record that passed 7 still passes with equal numbers." For any two ends: a session that is sound under the
-- earlier one is sound under the later one, and it is the record itself, with the numbers that it has. Each test of a position lets through
-- what it let through, and every other test is the same. Assumes nothing.
use Rattle.std.specs.Prelude.{◌≡◌, refl, Bool, true, false, not, ◌&&◌, ◌||◌, ℕ, ◌≤◌, leb}
use mathlib.Core.List.{List, [], ◌∷◌}
use Rattle.std.proofs.Common.{arith, le-leb, leb-true}
use Rattle.score.specs.declared.TimedEvent.{TimedEvent}
use Rattle.positions.specs.Positions.{is_in}
use Rattle.positions.specs.Laws.{and_true, and_both}
use Rattle.score_edits.specs.Edits.{may_precede, sound_velocity, sound_event_to, sound_after_to, sound_score_to}
use Rattle.session_cues.specs.declared.Cue.{Cue}
use Rattle.session_cues.specs.Cues.{kept_of, sound_piano, sound_cue_to, sound_cues_to}
use Rattle.session_record.specs.declared.Session.{Session}
use Rattle.session_record.specs.Record.{score_of, sound_session_to}

-- a test that has no end in it
unchanged : (a : Bool) → a ≡ true → a ≡ true
unchanged a e = e

-- of two tests that are both asked, both are weakened
and_weaker : {a b c d : Bool} → (a ≡ true → c ≡ true) → (b ≡ true → d ≡ true) → (a && b) ≡ true → (c && d) ≡ true
and_weaker {a} {b} {c} {d} f g e = let p = and_true a b e in and_both c d (f p.0) (g p.1)

-- of two tests of which one is enough, the second is weakened
or_weaker : (a : Bool) {b c : Bool} → (b ≡ true → c ≡ true) → (a || b) ≡ true → (a || c) ≡ true
or_weaker true g e = refl
or_weaker false g e = g e

module _ (a b : ℕ) (longer : a ≤ b) where
  position_longer : (x : ℕ) → leb x a ≡ true → leb x b ≡ true
  position_longer x e = le-leb x b (omega (arith, leb-true x a e))

  event_longer : (x : TimedEvent) → sound_event_to a x ≡ true → sound_event_to b x ≡ true
  unfolding sound_event_to
  event_longer x = and_weaker (position_longer x.position) (unchanged (sound_velocity x.event))

  after_longer : (x : TimedEvent) (l : List TimedEvent) → sound_after_to a x l ≡ true → sound_after_to b x l ≡ true
  unfolding sound_after_to
  after_longer x [] e = e
  after_longer x (y ∷ ys) e = and_weaker (and_weaker (unchanged (may_precede x y)) (event_longer y)) (after_longer y ys) e

  score_longer : (l : List TimedEvent) → sound_score_to a l ≡ true → sound_score_to b l ≡ true
  unfolding sound_score_to
  score_longer [] e = e
  score_longer (x ∷ xs) e = and_weaker (event_longer x) (after_longer x xs) e

  cue_longer : (keys : ℕ) (c : Cue) → sound_cue_to a keys c ≡ true → sound_cue_to b keys c ≡ true
  unfolding sound_cue_to
  cue_longer keys c = or_weaker (not c.kept) (and_weaker (position_longer c.position) (unchanged (sound_piano keys c.position c.piano)))

  cues_longer : (keys : ℕ) (cs : List Cue) → sound_cues_to a keys cs ≡ true → sound_cues_to b keys cs ≡ true
  unfolding sound_cues_to
  cues_longer keys [] e = e
  cues_longer keys (c ∷ cs) e = and_weaker (and_weaker (cue_longer keys c) (unchanged (not (c.kept && is_in c.position (kept_of cs))))) (cues_longer keys cs) e

  pub session_longer : (keys : ℕ) (s : Session) → sound_session_to a keys s ≡ true → sound_session_to b keys s ≡ true
  unfolding sound_session_to
  session_longer keys s =
      and_weaker (unchanged (leb s.count 64))
      (and_weaker (and_weaker (and_weaker (position_longer s.t) (score_longer (score_of s))) (unchanged (sound_piano keys s.t s.piano)))
      (cues_longer keys s.cues))
