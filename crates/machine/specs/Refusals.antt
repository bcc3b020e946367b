-- Document 01, "Numbers a call may give": 9 to 16, each tested on what is handed in, and for each call those that concern it in their
-- order. The plain machine and the calls' contracts share them. 0 is no refusal. Definitions only: assumes nothing.
use Rattle.std.specs.Prelude.{Bool, cond, not, List, ℕ, zero, suc, ◌+◌, ◌-◌, leb, ltb}
use Rattle.instrument.specs.declared.Instrument.{Instrument}
use Rattle.score.specs.declared.TimedEvent.{TimedEvent}
use Rattle.positions.specs.Positions.{end, others}
use Rattle.score_edits.specs.Edits.{sound_velocity}

abbrev pub refuse_if : Bool → ℕ → ℕ
refuse_if b n = cond b n 0

-- the first of two tests that refuses
abbrev pub or_else : ℕ → ℕ → ℕ
or_else zero b = b
or_else (suc a) b = suc a

-- 9. "Scratch (play, go) has fewer than 6S cells", and from document 02, W7: "refusal 9 now tests S"
unfoldable pub scratch_cells : Instrument → ℕ
scratch_cells i = i.string_count

abbrev pub scratch_test : Instrument → ℕ → ℕ
scratch_test i scratch = refuse_if (ltb scratch (scratch_cells i)) 9

-- 10. "The trace is shorter than the output."
abbrev pub trace_test : ℕ → ℕ → ℕ
trace_test m trace = refuse_if (ltb trace m) 10

-- 11. "t + m, p or q exceeds" the end, here `top`; from document 02, W8, "9,007,199,254,740,992 as the new end"
abbrev pub end_test : ℕ → ℕ → ℕ
end_test top x = refuse_if (ltb top x) 11

-- 12. "The score has 64 events."
abbrev pub full_test : ℕ → ℕ
full_test events = refuse_if (leb 64 events) 12

-- 13. "A velocity is NaN or outside −100 to 100."
abbrev pub velocity_test : TimedEvent → ℕ
velocity_test e = refuse_if (not (sound_velocity e.event)) 13

-- 14. "The index has no event."
abbrev pub index_test : ℕ → ℕ → ℕ
index_test index events = refuse_if (leb events index) 14

-- 15. "Four other cues are kept."
abbrev pub cues_test : ℕ → List ℕ → ℕ
cues_test t cues = refuse_if (leb 4 (others t cues)) 15

-- 16. "A go would replay more than 1,000,000 samples."
abbrev pub replay_test : ℕ → ℕ
replay_test n = refuse_if (ltb 1000000 n) 16

-- "play 7 to 11; cue 7, 8, 15; go 7, 8, 9, 11, 16; insert 7, 8, 11, 12, 13; remove 7, 8, 14", here from 9 on, where positions end at `top`
abbrev pub play_refusal_to : ℕ → Instrument → ℕ → ℕ → ℕ → ℕ → ℕ
play_refusal_to top i t scratch m trace = or_else (scratch_test i scratch) (or_else (trace_test m trace) (end_test top (t + m)))

abbrev pub cue_refusal : ℕ → List ℕ → ℕ
cue_refusal t cues = cues_test t cues

abbrev pub go_refusal_to : ℕ → Instrument → ℕ → ℕ → ℕ → ℕ
go_refusal_to top i scratch p start = or_else (scratch_test i scratch) (or_else (end_test top p) (replay_test (p - start)))

abbrev pub insert_refusal_to : ℕ → ℕ → TimedEvent → ℕ
insert_refusal_to top events e = or_else (end_test top e.position) (or_else (full_test events) (velocity_test e))

abbrev pub remove_refusal : ℕ → ℕ → ℕ
remove_refusal events index = index_test index events

-- the end is refusal 11's
abbrev pub play_refusal : Instrument → ℕ → ℕ → ℕ → ℕ → ℕ
play_refusal i t scratch m trace = play_refusal_to end i t scratch m trace

abbrev pub go_refusal : Instrument → ℕ → ℕ → ℕ → ℕ
go_refusal i scratch p start = go_refusal_to end i scratch p start

abbrev pub insert_refusal : ℕ → TimedEvent → ℕ
insert_refusal events e = insert_refusal_to end events e
