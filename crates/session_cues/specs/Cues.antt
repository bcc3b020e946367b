-- Document 01, "The session": the kept cues, as four slots in order. Refusal 7: "a session with .. a cue above the end of 11, .. over four
-- cues or two equal, a hammer on a key not there, a contact count above its position", which is now a sum over keys. Over four cannot be
-- written down here. Definitions only: assumes nothing.
use Rattle.std.specs.Prelude.{Bool, true, cond, not, ◌&&◌, ◌||◌, List, [], ◌∷◌, ℕ, eqb, leb, ltb}
use Rattle.std.specs.List.{position_or_len}
use Rattle.score.specs.declared.Piano.{Piano}
use Rattle.score.specs.Contacts.{contacts_of, hammer_on}
use Rattle.positions.specs.Positions.{end, is_in}
use Rattle.session_cues.specs.declared.Cue.{Cue}

-- the positions that are kept
unfoldable pub kept_of : List Cue → List ℕ
kept_of [] = []
kept_of (c ∷ cs) = cond c.kept (c.position ∷ kept_of cs) (kept_of cs)

-- the first slot that keeps a cue at x, and the first that keeps none; else the number of slots
abbrev pub stands_at : ℕ → Cue → Bool
stands_at x c = c.kept && eqb x c.position

abbrev pub is_free : Cue → Bool
is_free c = not c.kept

abbrev pub slot_at : ℕ → List Cue → ℕ
slot_at x cs = position_or_len (stands_at x) cs

abbrev pub free_slot : List Cue → ℕ
free_slot cs = position_or_len is_free cs

-- "Both edits drop cues above q": what was held for it stays in the slot, and decides nothing
abbrev pub drop_above : ℕ → Cue → Cue
drop_above q c = record { kept = c.kept && leb c.position q; position = c.position; piano = c.piano }

-- ---- refusal 7

-- What may be held for a position x, of an instrument with so many keys; its floats may be anything. Document 02, W2: "refusal 7 tests each
-- sum, the piano's and every cue's, against its own position".
unfoldable pub sound_piano : ℕ → ℕ → Piano → Bool
sound_piano keys x p = leb (contacts_of keys p) x && hammer_on keys p.motion.hammer

-- where positions end at `top`
unfoldable pub sound_cue_to : ℕ → ℕ → Cue → Bool
sound_cue_to top keys c = not c.kept || (leb c.position top && sound_piano keys c.position c.piano)

-- each is sound, and none is kept again in a later slot
unfoldable pub sound_cues_to : ℕ → ℕ → List Cue → Bool
sound_cues_to top keys [] = true
sound_cues_to top keys (c ∷ cs) = sound_cue_to top keys c && not (c.kept && is_in c.position (kept_of cs)) && sound_cues_to top keys cs

-- the end is refusal 11's
abbrev pub sound_cue : ℕ → Cue → Bool
sound_cue keys c = sound_cue_to end keys c

abbrev pub sound_cues : ℕ → List Cue → Bool
sound_cues keys cs = sound_cues_to end keys cs
