-- Document 01, "The session": a list of calls as the program runs it, each step by the record that the called function's `ensures` cites
-- and by nothing else; and what is claimed of it. Definitions only: assumes nothing.
use Rattle.std.specs.Prelude.{◌≡◌, true, List, [], ◌∷◌, ℕ, ◌<◌, Float, length, take, get_or, Result, Ok, Err}
use Rattle.refusal.specs.declared.Refusal.{Refusal}
use Rattle.refusal.specs.Refusal.{number_of}
use Rattle.instrument.specs.declared.Instrument.{Instrument}
use Rattle.score.specs.Score.{events_at}
use Rattle.score.specs.Contacts.{contacts_of}
use Rattle.score.specs.Due.{due, left_at}
use Rattle.render.specs.Render.{render_state, render_contacts}
use Rattle.positions.specs.Positions.{Same}
use Rattle.score_edits.specs.Edits.{RisingRanks}
use Rattle.machine.specs.Machine.{Machine, Call, Reply, opened, final, replies}
use Rattle.machine.specs.Laws.{Allowed, Replayed}
use Rattle.session_record.specs.declared.Session.{Session}
use Rattle.session_record.specs.Record.{score_of}
use Rattle.session.specs.declared.Answer.{Answer}
use Rattle.session.specs.declared.Answer.TheVariants.{Opened, Played, Cued, Went, Edited}
use Rattle.session.specs.declared.Outcome.{Outcome}
use Rattle.session.specs.Calls.{PlayMeets, CueMeets, GoMeets, InsertMeets, RemoveMeets, kept_by, cue_at, state_now, state_cue}

-- the reply that an answer gives, with the output and the first k cells of the trace where it is play's; `Opened` is no reply to
-- these calls, and 0 no refusal
abbrev pub reply_of : Result Answer Refusal → List Float → List Float → Reply
reply_of (Err e) out trace = Reply.refused (number_of e)
reply_of (Ok Opened) out trace = Reply.refused 0
reply_of (Ok (Played k contacts)) out trace = Reply.played k contacts out (take k trace)
reply_of (Ok Cued) out trace = Reply.cued
reply_of (Ok (Went n)) out trace = Reply.went n
reply_of (Ok (Edited t n)) out trace = Reply.edited t n

-- what the `ensures` of the called function says of a call. Output and trace, before and after, are play's; no other call has any.
abbrev pub CallMeets : Instrument → Session → List Float → Call → List Float → List Float → Outcome → List Float → List Float → List Float → Type 0
CallMeets i s work (Call.play scratch m n) out trace r work' out' trace' = (length out ≡ m) × (length trace ≡ n)
    × PlayMeets i s work scratch out trace r work' out' trace'
CallMeets i s work Call.cue out trace r work' out' trace' = CueMeets i s work r work'
CallMeets i s work (Call.go scratch p) out trace r work' out' trace' = GoMeets i s work scratch p r work'
CallMeets i s work (Call.insert e) out trace r work' out' trace' = InsertMeets i s work e r work'
CallMeets i s work (Call.remove index) out trace r work' out' trace' = RemoveMeets i s work index r work'

-- "Each call gets the instrument that opening got and the session and work memory the last one left". Scratch, output and trace may be
-- others at each call, with any content.
pub data Runs (i : Instrument) : Session → List Float → List Call → List Reply → Session → List Float → Type 0 where
  done : {s : Session} {work : List Float} → Runs i s work [] [] s work
  next : {s s'' : Session} {work work'' : List Float} {cs : List Call} {rs : List Reply} (c : Call) (out trace : List Float) (r : Outcome)
      (work' out' trace' : List Float)
      → CallMeets i s work c out trace r work' out' trace'
      → Runs i r.session work' cs rs s'' work''
      → Runs i s work (c ∷ cs) (reply_of r.answer out' trace' ∷ rs) s'' work''

-- the program's session and memory are those of the plain machine
pub record Follows (i : Instrument) (s : Session) (work : List Float) (p : Machine) : Type 0 where
  -- "the score, position and kept cues"
  pub score : score_of s ≡ p.score
  pub position : s.t ≡ p.t
  pub cues : Same (kept_by s) p.cues
  -- "The state after the list and the state held for every kept cue equal what one unbroken render of the standing score from silence ..
  -- has at their positions."
  pub now : state_now i s work ≡ render_state i p.score p.t
  pub held : (j : ℕ) → j < 4 → (cue_at s j).kept ≡ true → state_cue i s work j ≡ render_state i p.score (cue_at s j).position

-- Document 02, W2: "After every list of demand 3 the sum over keys is the Rust's contact_samples for the standing score at t", and for
-- every kept cue that at its own position
pub record Counts (i : Instrument) (s : Session) (p : Machine) : Type 0 where
  pub now : contacts_of i.key_count s.piano ≡ render_contacts i p.score p.t
  pub held : (j : ℕ) → j < 4 → (cue_at s j).kept ≡ true → contacts_of i.key_count (cue_at s j).piano ≡ render_contacts i p.score (cue_at s j).position

-- the machine after the first k calls of a list; from the list's length on, after all of them
abbrev pub standing : Instrument → List Call → ℕ → Machine
standing i cs k = final i opened (take k cs)

-- what is claimed of a list of calls from a session just opened
pub record Claim (i : Instrument) (cs : List Call) (rs : List Reply) (s : Session) (work : List Float) : Type 0 where
  -- "every answer .. are those of 01's plain machine for that list"; "Each block played equals that render's samples and forces, for the score standing then."
  pub answers : rs ≡ replies i opened cs
  pub after : Follows i s work (final i opened cs)
  pub counts : Counts i s (final i opened cs)
  -- "7 and 8 never come in such a list": every refusal is from 9 to 16
  pub allowed : (k : ℕ) → k < length rs → Allowed (get_or rs k Reply.cued)
  -- "Each accepted go reports .. target minus start, never more than from 0, from the position before the go or from any kept cue, of those
  -- not above the target."
  pub replayed : (k scratch p n : ℕ) → k < length cs → get_or cs k Call.cue ≡ Call.go scratch p → get_or rs k Reply.cued ≡ Reply.went n
      → Replayed (standing i cs k) p n
  -- "by 01's rules for one sample", of which the first is "events whose position is not above t": the events that act on sample t of a
  -- standing score are those that a walk over it applies at t, having applied the earlier ones before
  pub walked : (k t : ℕ) → events_at (standing i cs k).score t ≡ due t (left_at (standing i cs k).score t)
  -- "at one position a release acts first, then a hand damp, a pedal move and a strike": the ranks of the events that act on sample t do not fall
  pub ranked : (k t : ℕ) → RisingRanks 0 (events_at (standing i cs k).score t)
