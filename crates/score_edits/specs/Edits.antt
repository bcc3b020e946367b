-- Document 02, W1: "Insert now goes after all events of earlier position and after those of its position and same or earlier kind"; "A
-- session record whose events break this order falls under 7." Document 01, "The session": remove takes "the event at an index from 0, of
-- position q"; refusals 7 and 13: "a position that falls or is above that end, a velocity of 13". Definitions only: assumes nothing.
use Rattle.std.specs.Prelude.{Bool, true, cond, ◌&&◌, List, [], ◌∷◌, ℕ, zero, suc, ◌≤◌, eqb, leb, ltb, Float, pos}
use Rattle.std.specs.Float.Ieee.{le, neg, of_int}
use Rattle.std.specs.Float.{binary64}
use Rattle.score.specs.declared.Event.{Event}
use Rattle.score.specs.declared.Event.TheVariants.{NoteOn, NoteOff, Pedal, HandDamp}
use Rattle.score.specs.declared.TimedEvent.{TimedEvent}
use Rattle.positions.specs.Positions.{end}

-- "at one position a release acts first, then a hand damp, a pedal move and a strike"
unfoldable pub rank_of : Event → ℕ
rank_of (NoteOff k) = 0
rank_of (HandDamp k) = 1
rank_of (Pedal d) = 2
rank_of (NoteOn k v) = 3

-- the one order of a score: whether x may stand before y, by position, and at one position by rank
unfoldable pub may_precede : TimedEvent → TimedEvent → Bool
may_precede x y = cond (eqb x.position y.position) (leb (rank_of x.event) (rank_of y.event)) (ltb x.position y.position)

-- ranks that do not fall, and none is below `from`
unfoldable pub RisingRanks : ℕ → List Event → Type 0
RisingRanks from [] = Unit {0}
RisingRanks from (e ∷ es) = (from ≤ rank_of e) × RisingRanks (rank_of e) es

-- after all events that may precede it
unfoldable pub placed : List TimedEvent → TimedEvent → List TimedEvent
placed [] e = e ∷ []
placed (x ∷ xs) e = cond (may_precede x e) (x ∷ placed xs e) (e ∷ x ∷ xs)

-- the index at which it is placed
unfoldable pub place_of : List TimedEvent → TimedEvent → ℕ
place_of [] e = 0
place_of (x ∷ xs) e = cond (may_precede x e) (suc (place_of xs e)) 0

-- the event at an index from 0 is gone
unfoldable pub removed : List TimedEvent → ℕ → List TimedEvent
removed [] k = []
removed (x ∷ xs) zero = xs
removed (x ∷ xs) (suc k) = x ∷ removed xs k

-- a velocity of 13 is NaN or outside −100 to 100; a comparison with NaN is false
abbrev pub hundred : Float
hundred = of_int binary64 (pos 100)

unfoldable pub sound_velocity : Event → Bool
sound_velocity (NoteOn k v) = le (neg hundred) v && le v hundred
sound_velocity (NoteOff k) = true
sound_velocity (Pedal d) = true
sound_velocity (HandDamp k) = true

-- where positions end at `top`
unfoldable pub sound_event_to : ℕ → TimedEvent → Bool
sound_event_to top x = leb x.position top && sound_velocity x.event

-- each event may follow the one before it, and is sound; x stands before the first
unfoldable pub sound_after_to : ℕ → TimedEvent → List TimedEvent → Bool
sound_after_to top x [] = true
sound_after_to top x (y ∷ ys) = may_precede x y && sound_event_to top y && sound_after_to top y ys

unfoldable pub sound_score_to : ℕ → List TimedEvent → Bool
sound_score_to top [] = true
sound_score_to top (x ∷ xs) = sound_event_to top x && sound_after_to top x xs

-- the end is refusal 11's
abbrev pub sound_event : TimedEvent → Bool
sound_event x = sound_event_to end x

abbrev pub sound_after : TimedEvent → List TimedEvent → Bool
sound_after x l = sound_after_to end x l

abbrev pub sound_score : List TimedEvent → Bool
sound_score l = sound_score_to end l
