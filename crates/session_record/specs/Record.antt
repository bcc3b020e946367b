-- Document 01, refusals 7 and 8: "A handed-in record, whose fields are open, is wrong: an instrument that no accepted file gives; or a
-- session with t .. above the end of 11, over 64 events, ..", and "Work memory .. has fewer than 5W cells"; and each call's number, 7 and 8
-- before the machine's. Definitions only: assumes nothing.
use Rattle.std.specs.Prelude.{Bool, not, ◌&&◌, List, ℕ, ◌*◌, leb, ltb, take}
use Rattle.instrument.specs.declared.Instrument.{Instrument}
use Rattle.instrument.specs.Valid.{valid}
use Rattle.instrument.specs.Work.{part_cells}
use Rattle.score.specs.declared.TimedEvent.{TimedEvent}
use Rattle.positions.specs.Positions.{end}
use Rattle.score_edits.specs.Edits.{sound_score_to}
use Rattle.session_cues.specs.Cues.{kept_of, sound_piano, sound_cues_to}
use Rattle.machine.specs.Refusals.{refuse_if, or_else, play_refusal, cue_refusal, go_refusal, insert_refusal, remove_refusal}
use Rattle.machine.specs.Machine.{start_of}
use Rattle.session_record.specs.declared.Session.{Session}

-- the score: what lies past the count decides nothing
abbrev pub score_of : Session → List TimedEvent
score_of s = take s.count s.events

-- of an instrument with so many keys, where positions end at `top`
unfoldable pub sound_session_to : ℕ → ℕ → Session → Bool
sound_session_to top keys s =
    leb s.count 64
    && (leb s.t top && sound_score_to top (score_of s) && sound_piano keys s.t s.piano && sound_cues_to top keys s.cues)

-- the end is refusal 11's
abbrev pub sound_session : ℕ → Session → Bool
sound_session keys s = sound_session_to end keys s

-- 7
abbrev pub sound_records : Instrument → Session → Bool
sound_records i s = valid i && sound_session i.key_count s

-- 8. "Work memory (open and the five calls; energies too) has fewer than 5W cells."
abbrev pub work_test : Instrument → ℕ → ℕ
work_test i cells = refuse_if (ltb cells (5 * part_cells i)) 8

-- "open, given an instrument, 7 and 8"
unfoldable pub open_refusal : Instrument → ℕ → ℕ
open_refusal i cells = or_else (refuse_if (not (valid i)) 7) (work_test i cells)

-- 7 and 8, of every other call
unfoldable pub record_refusal : Instrument → Session → ℕ → ℕ
record_refusal i s cells = or_else (refuse_if (not (sound_records i s)) 7) (work_test i cells)

-- "A call tests those that concern it, in this order": each call's number, from the lengths of what it is lent
abbrev pub play_number : Instrument → Session → (cells scratch m trace : ℕ) → ℕ
play_number i s cells scratch m trace = or_else (record_refusal i s cells) (play_refusal i s.t scratch m trace)

abbrev pub cue_number : Instrument → Session → (cells : ℕ) → ℕ
cue_number i s cells = or_else (record_refusal i s cells) (cue_refusal s.t (kept_of s.cues))

abbrev pub go_number : Instrument → Session → (cells scratch p : ℕ) → ℕ
go_number i s cells scratch p = or_else (record_refusal i s cells) (go_refusal i scratch p (start_of s.t (kept_of s.cues) p))

abbrev pub insert_number : Instrument → Session → (cells : ℕ) → TimedEvent → ℕ
insert_number i s cells e = or_else (record_refusal i s cells) (insert_refusal s.count e)

abbrev pub remove_number : Instrument → Session → (cells index : ℕ) → ℕ
remove_number i s cells index = or_else (record_refusal i s cells) (remove_refusal s.count index)
