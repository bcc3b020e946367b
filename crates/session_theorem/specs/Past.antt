-- "None of them can alter an answer": what document 01 leaves free decides nothing, nor what lies past the counts of a session, "a
-- handed-in record, whose fields are open", nor the contact counts of places past the instrument's keys. Here: which sessions with work
-- memories agree but for these. That they get the same replies from every list of calls, and agree again afterwards, is proved in
-- proofs/Past.antt. Definitions only: assumes nothing.
use Rattle.std.specs.Prelude.{◌≡◌, List, [], ◌∷◌, Float, take, get_or}
use Rattle.std.proofs.Math.Bool.{true, false}
use Prim.Native.Nat.{ℕ, ◌+◌, ◌*◌, ◌<◌}
use Rattle.std.proofs.Math.ListN.{length}
use Rattle.cells.specs.Splice.{part}
use Rattle.instrument.specs.declared.Instrument.{Instrument}
use Rattle.instrument.specs.Work.{part_cells}
use Rattle.session_cues.specs.declared.Cue.{Cue}
use Rattle.session_record.specs.declared.Session.{Session}
use Rattle.session_record.specs.Record.{score_of}
use Rattle.session.specs.declared.Outcome.{Outcome}
use Rattle.session_theorem.specs.Runs.{reply_of}
use Rattle.session_theorem.specs.PastKeys.{of_keys, cue_of_keys}

-- slot by slot: the same cue is kept in both, but for contact counts of places past so many keys, or none in either
pub data SameCues (keys : ℕ) : List Cue → List Cue → Type 0 where
  no_more : SameCues keys [] []
  kept : {c d : Cue} {a b : List Cue} → cue_of_keys keys c ≡ cue_of_keys keys d → SameCues keys a b → SameCues keys (c ∷ a) (d ∷ b)
  free : {c d : Cue} {a b : List Cue} → c.kept ≡ false → d.kept ≡ false → SameCues keys a b → SameCues keys (c ∷ a) (d ∷ b)

-- two work memories, as long as each other, with the same first part and the same part for each kept cue; parts of slots that keep none,
-- and cells beyond the five parts, may differ
pub record SameMemory (w : ℕ) (cues : List Cue) (work work' : List Float) : Type 0 where
  pub cells : length work ≡ length work'
  pub now : take w work ≡ take w work'
  pub held : (j : ℕ) (d : Cue) → j < length cues → (get_or cues j d).kept ≡ true → part ((j + 1) * w) w work ≡ part ((j + 1) * w) w work'

-- two sessions, each with its work memory, that agree up to their counts; events past the count, slots that keep no cue, and contact counts
-- of places past the instrument's keys may differ
pub record Alike (i : Instrument) (s : Session) (work : List Float) (s' : Session) (work' : List Float) : Type 0 where
  pub position : s.t ≡ s'.t
  pub number : s.count ≡ s'.count
  pub score : score_of s ≡ score_of s'
  pub cues : SameCues i.key_count s.cues s'.cues
  pub piano : of_keys i.key_count s.piano ≡ of_keys i.key_count s'.piano
  pub memory : SameMemory (part_cells i) s.cues work work'
  -- both have 64 places for events and four slots, as every session
  pub long : length s.events ≡ 64
  pub long' : length s'.events ≡ 64
  pub four : length s.cues ≡ 4

-- two outcomes of one call: the same answer, with the same samples and forces where it is play's; sessions and memories that agree again
pub record SameOutcome (i : Instrument) (r : Outcome) (work out trace : List Float) (r' : Outcome) (work' out' trace' : List Float) : Type 0 where
  pub answer : r.answer ≡ r'.answer
  pub reply : reply_of r.answer out trace ≡ reply_of r'.answer out' trace'
  pub after : Alike i r.session work r'.session work'
