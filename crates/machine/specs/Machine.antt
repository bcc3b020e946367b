-- Document 01, "The session": the plain machine. It is fed the instrument, the calls' positions, events and indices, and the lengths of
-- scratch, output and trace; nothing of it comes from the program's session or memory. Definitions only: assumes nothing.
use Rattle.std.specs.Prelude.{cond, List, [], ◌∷◌, ℕ, zero, suc, ◌+◌, ◌-◌, ltb, Float, length, drop, get_or}
use Rattle.instrument.specs.declared.Instrument.{Instrument}
use Rattle.score.specs.declared.TimedEvent.{TimedEvent}
use Rattle.score.specs.Score.{no_event}
use Rattle.render.specs.Render.{render_samples, render_forces, render_contacts}
use Rattle.positions.specs.Positions.{end, is_in, above, up_to, greatest}
use Rattle.score_edits.specs.Edits.{placed, removed}
use Rattle.machine.specs.Refusals.{play_refusal_to, cue_refusal, go_refusal_to, insert_refusal_to, remove_refusal}

-- "a score, a position t and a set of at most four cue positions"
pub record Machine : Type 0 where
  pub score : List TimedEvent
  pub t : ℕ
  pub cues : List ℕ

-- "It starts as opening gives it: no events, t = 0, no cues."
abbrev pub opened : Machine
opened = record { score = []; t = 0; cues = [] }

pub data Call : Type 0 where
  play : (scratch m trace : ℕ) → Call
  cue : Call
  go : (scratch p : ℕ) → Call
  insert : (e : TimedEvent) → Call
  remove : (index : ℕ) → Call

-- "accepted, or the refusal's number; play's k; go's number; an edit's t and number dropped"; with play's contact samples at its end,
-- samples and forces. Document 02, W2: "play returns that sum beside k, compared as k is"
pub data Reply : Type 0 where
  refused : (number : ℕ) → Reply
  played : (k contacts : ℕ) (samples forces : List Float) → Reply
  cued : Reply
  went : (replayed : ℕ) → Reply
  edited : (t dropped : ℕ) → Reply

-- samples t to t + m − 1 of the score's one render from silence, and their forces
unfoldable pub block_samples : Instrument → List TimedEvent → ℕ → ℕ → List Float
block_samples i score t m = drop t (render_samples i score (t + m))

unfoldable pub block_forces : Instrument → List TimedEvent → ℕ → ℕ → List Float
block_forces i score t m = drop (length (render_forces i score t)) (render_forces i score (t + m))

-- go "starts at the greatest of 0, the kept cues ≤ p, and t if t ≤ p"
abbrev pub start_of : ℕ → List ℕ → ℕ → ℕ
start_of t cues p = greatest (up_to p (t ∷ cues))

-- "If t > q, t becomes the greatest kept cue ≤ q, else 0."
abbrev pub settled : ℕ → List ℕ → ℕ → ℕ
settled t cues q = cond (ltb q t) (greatest (up_to q cues)) t

-- "Both edits drop cues above q. .. Each returns t and the number dropped."
abbrev pub edit : Machine → List TimedEvent → ℕ → Machine × Reply
edit p score q =
    (record { score = score; t = settled p.t p.cues q; cues = up_to q p.cues }, Reply.edited (settled p.t p.cues q) (above q p.cues))

-- "A refused call answers the number and leaves the machine as it was"
abbrev pub unless : ℕ → Machine → Machine × Reply → Machine × Reply
unless zero p done = done
unless (suc n) p done = (p, Reply.refused (suc n))

-- one call, where positions end at `top`
unfoldable pub does_to : ℕ → Instrument → Machine → Call → Machine × Reply
does_to top i p (Call.play scratch m trace) =
    unless (play_refusal_to top i p.t scratch m trace) p (
      record { score = p.score; t = p.t + m; cues = p.cues },
      Reply.played (length (block_forces i p.score p.t m)) (render_contacts i p.score (p.t + m)) (block_samples i p.score p.t m) (block_forces i p.score p.t m),
    )
does_to top i p Call.cue =
    unless (cue_refusal p.t p.cues) p (record { score = p.score; t = p.t; cues = cond (is_in p.t p.cues) p.cues (p.t ∷ p.cues) }, Reply.cued)
does_to top i p (Call.go scratch q) =
    unless (go_refusal_to top i scratch q (start_of p.t p.cues q)) p
    (record { score = p.score; t = q; cues = p.cues }, Reply.went (q - start_of p.t p.cues q))
does_to top i p (Call.insert e) = unless (insert_refusal_to top (length p.score) e) p (edit p (placed p.score e) e.position)
does_to top i p (Call.remove index) =
    unless (remove_refusal (length p.score) index) p (edit p (removed p.score index) (get_or p.score index no_event).position)

-- a list of calls: the machine after it, and every reply
unfoldable pub final_to : ℕ → Instrument → Machine → List Call → Machine
final_to top i p [] = p
final_to top i p (c ∷ cs) = final_to top i (does_to top i p c).0 cs

unfoldable pub replies_to : ℕ → Instrument → Machine → List Call → List Reply
replies_to top i p [] = []
replies_to top i p (c ∷ cs) = (does_to top i p c).1 ∷ replies_to top i (does_to top i p c).0 cs

-- the plain machine, whose end is refusal 11's
abbrev pub does : Instrument → Machine → Call → Machine × Reply
does i p c = does_to end i p c

abbrev pub final : Instrument → Machine → List Call → Machine
final i p cs = final_to end i p cs

abbrev pub replies : Instrument → Machine → List Call → List Reply
replies i p cs = replies_to end i p cs
