-- The layout of a session's words: how many words each part has, and where it stands in the part that holds it. Definitions only: assumes nothing.
use Rattle.std.specs.Prelude.{ℕ, ◌+◌, ◌*◌}

-- ---- the hammer's motion: the hammer, peak force

abbrev pub hammer_size : ℕ
hammer_size = 4

abbrev pub peak_offset : ℕ
peak_offset = hammer_size

abbrev pub motion_size : ℕ
motion_size = peak_offset + 1

-- ---- a piano's small state: 16 held from 0 on, 16 hand-damped, 16 damper resistances, 16 contact samples, the pedal, the motion

abbrev pub hand_damped_offset : ℕ
hand_damped_offset = 16

abbrev pub dampers_offset : ℕ
dampers_offset = hand_damped_offset + 16

abbrev pub contacts_offset : ℕ
contacts_offset = dampers_offset + 16

abbrev pub pedal_offset : ℕ
pedal_offset = contacts_offset + 16

abbrev pub motion_offset : ℕ
motion_offset = pedal_offset + 1

abbrev pub piano_size : ℕ
piano_size = motion_offset + motion_size

-- ---- a timed event: position, then the event's three; a cue: whether it is kept, its position, its piano

abbrev pub event_size : ℕ
event_size = 3

abbrev pub timed_size : ℕ
timed_size = 1 + event_size

abbrev pub cue_piano_offset : ℕ
cue_piano_offset = 2

abbrev pub cue_size : ℕ
cue_size = cue_piano_offset + piano_size

-- ---- a session: t, the number of events, 64 timed events, four cues, the piano now

abbrev pub events_offset : ℕ
events_offset = 2

abbrev pub cues_offset : ℕ
cues_offset = events_offset + timed_size * 64

abbrev pub piano_offset : ℕ
piano_offset = cues_offset + cue_size * 4

abbrev pub session_size : ℕ
session_size = piano_offset + piano_size
