-- A session as words: t and the number of events; 64 events (position; kind 0 a strike, 1 a release, 2 the pedal, 3 a hand damp; key, or
-- 1 for a pedal that is down; a strike's velocity, else 0); four cues (1 where it is kept, position, its piano); the piano now: 616 in all,
-- as Layout counts them. Definitions only: assumes nothing.
use Rattle.std.specs.Prelude.{◌≡◌, Bool, true, false, cond, ◌&&◌, List, [], ◌∷◌, ◌++◌, ℕ, ◌%◌, eqb, leb, Float, length, get_or, drop, replicate}
use Rattle.std.specs.Float.{binary64}
use Rattle.std.specs.Float.Ieee.{of_bits, to_bits}
use Rattle.counting.specs.Every.{every}
use Rattle.score.specs.declared.Event.{Event}
use Rattle.score.specs.declared.Event.TheVariants.{NoteOn, NoteOff, Pedal, HandDamp}
use Rattle.score.specs.declared.TimedEvent.{TimedEvent}
use Rattle.session_cues.specs.declared.Cue.{Cue}
use Rattle.session_record.specs.declared.Session.{Session}
use Rattle.session_words.specs.Layout.{timed_size, cue_size, cue_piano_offset, events_offset, cues_offset, piano_offset, session_size}
use Rattle.session_words.specs.Items.{joined, items_of}
use Rattle.session_words.specs.Piano.{bit_of, piano_words, piano_of, is_piano}
use Rattle.std.specs.Prelude.{Option, Some, None}

-- ---- an event by its numbers

unfoldable pub is_event : ℕ → ℕ → Bool
is_event kind key = cond (eqb kind 2) (leb key 1) (leb kind 3 && leb key 255)

unfoldable pub event_of : ℕ → ℕ → Float → Event
event_of kind key velocity =
    cond (eqb kind 0) (NoteOn (key % 256) velocity) (cond (eqb kind 1) (NoteOff (key % 256)) (cond (eqb kind 2) (Pedal (eqb key 1)) (HandDamp (key % 256))))

unfoldable pub event_words : Event → List ℕ
event_words (NoteOn k v) = 0 ∷ k ∷ to_bits binary64 v ∷ []
event_words (NoteOff k) = 1 ∷ k ∷ 0 ∷ []
event_words (Pedal d) = 2 ∷ bit_of d ∷ 0 ∷ []
event_words (HandDamp k) = 3 ∷ k ∷ 0 ∷ []

-- ---- a timed event, a cue and the whole

unfoldable pub timed_words : TimedEvent → List ℕ
timed_words e = e.position ∷ event_words e.event

unfoldable pub timed_of : List ℕ → TimedEvent
timed_of w = record { position = get_or w 0 0; event = event_of (get_or w 1 0) (get_or w 2 0) (of_bits binary64 (get_or w 3 0)) }

unfoldable pub cue_words : Cue → List ℕ
cue_words c = bit_of c.kept ∷ c.position ∷ piano_words c.piano

unfoldable pub cue_of : List ℕ → Cue
cue_of w = record { kept = eqb (get_or w 0 0) 1; position = get_or w 1 0; piano = piano_of (drop cue_piano_offset w) }

unfoldable pub words_of : Session → List ℕ
words_of s = s.t ∷ s.count ∷ (joined timed_words s.events ++ (joined cue_words s.cues ++ piano_words s.piano))

unfoldable pub session_of : List ℕ → Session
session_of w =
    record {
      t = get_or w 0 0;
      count = get_or w 1 0;
      events = items_of timed_of timed_size 64 (drop events_offset w);
      cues = items_of cue_of cue_size 4 (drop cues_offset w);
      piano = piano_of (drop piano_offset w);
    }

-- ---- which words are a session's: as many as it has, and each that counts has a meaning. What counts for nothing may hold anything:
-- events past the count, a cue that is not kept, and the velocity of an event that is not a strike

abbrev pub is_timed : List ℕ → Bool
is_timed w = is_event (get_or w 1 0) (get_or w 2 0)

unfoldable pub is_cue : List ℕ → Bool
is_cue w = cond (eqb (get_or w 0 0) 0) true (eqb (get_or w 0 0) 1 && is_piano (drop cue_piano_offset w))

-- how many of the 64 events a count counts; a count above 64 is refusal 7's
unfoldable pub counted_events : ℕ → ℕ
counted_events n = cond (leb n 64) n 64

unfoldable pub has_meaning : List ℕ → Bool
has_meaning w =
    every (items_of is_timed timed_size (counted_events (get_or w 1 0)) (drop events_offset w))
    && every (items_of is_cue cue_size 4 (drop cues_offset w))
    && is_piano (drop piano_offset w)

unfoldable pub is_session : List ℕ → Bool
unfolding has_meaning
is_session w = eqb (length w) session_size && has_meaning w

-- the session that w is, where it is one's
unfoldable pub session_in : List ℕ → Option Session
session_in w = cond (is_session w) (Some (session_of w)) None

-- the session that w gives where nothing is asked of it: that of zeros, where w has not as many words as a session
unfoldable pub session_from : List ℕ → Session
session_from w = cond (eqb (length w) session_size) (session_of w) (session_of (replicate session_size 0))

-- what writing s into a slice that held w promises; r is the answer, w' what the slice holds then
pub record PutMeets (s : Session) (w : List ℕ) (r : Bool) (w' : List ℕ) : Type 0 where
  pub answer : r ≡ eqb (length w) session_size
  pub writes : r ≡ true → w' ≡ words_of s
  pub keeps : r ≡ false → w' ≡ w
  -- the round trip
  pub tells : r ≡ true → is_session w' ≡ true
  pub back : r ≡ true → session_of w' ≡ s
