-- Long calls in parts: what the parts give is what the whole gives. The program `rehearse` does a go of many samples as goes to places on
-- its way, and a play that its output does not hold whole as plays of fewer samples. Over the plain machine, which by demand 3 is what the
-- program answers and leaves: the parts leave the machine that the whole leaves, their numbers add up to its number, their samples and
-- forces one after the other are its own, and a whole that is refused is refused at its first part. How: of a go from s to p, cut at q, the
-- first part starts at s too, and the rest at q, since every kept cue not above p is not above s; a play is cut as the render is. The rest
-- can be cut again. Assumes nothing.
use Rattle.std.specs.Prelude.{◌≡◌, true, List, ◌∷◌, ◌++◌, ℕ, ◌+◌, ◌-◌, ◌<◌, ◌≤◌, Float, length}
use Rattle.std.proofs.Common.{◌∙◌, inr, ⊎_elim, arith, lt-ltb, le-ltb, length-append}
use Rattle.instrument.specs.declared.Instrument.{Instrument}
use Rattle.score.specs.declared.TimedEvent.{TimedEvent}
use Rattle.render.specs.Render.{render_state, render_contacts}
use Rattle.render.specs.Laws.{samples_then, forces_then, render_then}
use Rattle.positions.specs.Positions.{end, is_in}
use Rattle.positions.specs.Laws.{in_front, in_cons, in_cases, greatest_up_to}
use Rattle.machine.specs.Refusals.{play_refusal, go_refusal}
use Rattle.machine.specs.Machine.{Machine, Call, Reply, start_of, does, does_to, block_samples, block_forces}
use Rattle.machine.specs.Laws.{play_passed, go_passed, go_least}
use Rattle.session_theorem.specs.Steps.{greatest_held, block_samples_lem, block_forces_lem}

-- a machine moved to another position
abbrev pub moved_to : Machine → ℕ → Machine
moved_to m t = record { score = m.score; t = t; cues = m.cues }

-- ---- where a go's parts start

module _ (t : ℕ) (cues : List ℕ) (q p : ℕ) (from : start_of t cues p ≤ q) (to : q ≤ p) where
  -- on the way to p: where the go to p starts
  start_first : start_of t cues q ≡ start_of t cues p
  start_first =
      omega (
        arith,
        go_least t cues p (start_of t cues q) (omega (arith, greatest_up_to q (t ∷ cues))) (greatest_held q (t ∷ cues)),
        go_least t cues q (start_of t cues p) from (greatest_held p (t ∷ cues)),
        greatest_up_to q (t ∷ cues),
        greatest_up_to p (t ∷ cues),
      )

  -- from there on: where the part before it ended
  start_next : start_of q cues p ≡ q
  start_next =
      omega (
        arith,
        go_least q cues p q to (inr (in_front q cues)),
        greatest_up_to p (q ∷ cues),
        ⊎_elim (λ (z : start_of q cues p ≡ 0). omega arith) below (greatest_held p (q ∷ cues)),
      )
    where
      below : is_in (start_of q cues p) (q ∷ cues) ≡ true → start_of q cues p ≤ q
      below z =
          ⊎_elim (λ (y : start_of q cues p ≡ q). omega arith)
          (λ (y : is_in (start_of q cues p) cues ≡ true).
          omega (
            arith,
            go_least t cues p (start_of q cues p) (greatest_up_to p (q ∷ cues)) (inr (in_cons (start_of q cues p) t cues y)),
            greatest_up_to p (q ∷ cues),
            greatest_up_to p (t ∷ cues),
          ))
          (in_cases (start_of q cues p) q cues z)

-- ---- a go in parts

-- not beyond the end, and not too far, two goes are refused alike: as 9 or not at all
go_alike : (i : Instrument) (scratch q p r s : ℕ) → q ≤ end → q - r ≤ 1000000 → p ≤ end → p - s ≤ 1000000 → go_refusal i scratch q r ≡ go_refusal i scratch p s
go_alike i scratch q p r s a b c d = rw (le-ltb end q a, le-ltb 1000000 (q - r) b, le-ltb end p c, le-ltb 1000000 (p - s) d)

-- a go to p that 11 and 16 do not concern: its first part is refused exactly as the whole
pub go_parts_refused : (i : Instrument) (t : ℕ) (cues : List ℕ) (scratch q p : ℕ) → start_of t cues p ≤ q → q ≤ p → p ≤ end → p - start_of t cues p ≤ 1000000
    → go_refusal i scratch q (start_of t cues q) ≡ go_refusal i scratch p (start_of t cues p)
go_parts_refused i t cues scratch q p from to inside near =
    go_alike i scratch q p (start_of t cues q) (start_of t cues p) (omega arith) (omega (arith, start_first t cues q p from to)) inside near

-- the go to q, the go to p from where it leaves the machine, and the one go to p, which starts at s
pub record GoParts (i : Instrument) (m : Machine) (scratch q p s : ℕ) : Type 0 where
  pub first : does i m (Call.go scratch q) ≡ (moved_to m q, Reply.went (q - s))
  pub next : does i (moved_to m q) (Call.go scratch p) ≡ (moved_to m p, Reply.went (p - q))
  pub whole : does i m (Call.go scratch p) ≡ (moved_to m p, Reply.went ((q - s) + (p - q)))
  -- what lets the rest be cut again
  pub start : start_of q m.cues p ≡ q
  pub rest : go_refusal i scratch p (start_of q m.cues p) ≡ 0

-- a go to p that is not refused, cut anywhere between its start and p: the parts leave what the whole leaves, and their numbers add up to its number
pub go_parts : (i : Instrument) (m : Machine) (scratch q p : ℕ) → start_of m.t m.cues p ≤ q → q ≤ p → go_refusal i scratch p (start_of m.t m.cues p) ≡ 0
    → GoParts i m scratch q p (start_of m.t m.cues p)
unfolding does_to
go_parts i m scratch q p from to e =
    let s = start_of m.t m.cues p in
    let fine = go_passed i scratch p s e in
    let sum : p - s ≡ (q - s) + (p - q) = omega arith in
    let start : start_of q m.cues p ≡ q = start_next m.t m.cues q p from to in
    let rest : go_refusal i scratch p (start_of q m.cues p) ≡ 0 = go_alike i scratch p p (start_of q m.cues p) s fine.1 (omega (arith, fine)) fine.1 fine.2
    ∙ e in
    record {
      first = rw (go_parts_refused i m.t m.cues scratch q p from to fine.1 fine.2 ∙ e, start_first m.t m.cues q p from to);
      next = rw (rest, start);
      whole = rw (e, sum);
      start = start;
      rest = rest;
    }

-- ---- a play in parts

-- a + b samples of a score from t on are a from t on, then b from there
module _ (i : Instrument) (score : List TimedEvent) (t a b : ℕ) where
  samples_parts : block_samples i score t (a + b) ≡ block_samples i score t a ++ block_samples i score (t + a) b
  samples_parts =
      rw (block_samples_lem i score t (a + b), block_samples_lem i score t a, block_samples_lem i score (t + a) b, render_then i score t a)
      (samples_then i score t a b (render_state i score t))

  forces_parts : block_forces i score t (a + b) ≡ block_forces i score t a ++ block_forces i score (t + a) b
  forces_parts =
      rw (block_forces_lem i score t (a + b), block_forces_lem i score t a, block_forces_lem i score (t + a) b, render_then i score t a)
      (forces_then i score t a b (render_state i score t))

-- with a trace that is long enough, and not beyond the end, two plays are refused alike: as 9 or not at all
play_alike : (i : Instrument) (scratch t a n u b k : ℕ) → a ≤ n → t + a ≤ end → b ≤ k → u + b ≤ end
    → play_refusal i t scratch a n ≡ play_refusal i u scratch b k
play_alike i scratch t a n u b k ha hb hc hd = rw (le-ltb n a ha, le-ltb end (t + a) hb, le-ltb k b hc, le-ltb end (u + b) hd)

-- A play of m samples that the output does not hold whole: the first call that `rehearse` makes for it is refused exactly as it is.
pub record PlayRefusals (i : Instrument) (t scratch m trace : ℕ) : Type 0 where
  -- the trace is too short for m: a play with no trace
  pub short : trace < m → (a : ℕ) → 0 < a → play_refusal i t scratch a 0 ≡ play_refusal i t scratch m trace
  -- the trace is long enough, and the end too near: a go to where the play would end
  pub beyond : m ≤ trace → end < t + m → (start : ℕ) → go_refusal i scratch (t + m) start ≡ play_refusal i t scratch m trace
  -- neither: a play of fewer samples, with a trace that is long enough for them
  pub fits : m ≤ trace → t + m ≤ end → (a n : ℕ) → a ≤ m → a ≤ n → play_refusal i t scratch a n ≡ play_refusal i t scratch m trace

-- each by the tests that decide both
pub play_parts_refused : (i : Instrument) (t scratch m trace : ℕ) → PlayRefusals i t scratch m trace
play_parts_refused i t scratch m trace =
    record {
      short = λ h a low. rw (lt-ltb 0 a low, lt-ltb trace m h);
      beyond = λ h far start. rw (lt-ltb end (t + m) far, le-ltb trace m h);
      fits = λ h inside a n less room. play_alike i scratch t a n t m trace room (omega arith) h inside;
    }

-- the play of a samples, the play of b from where it leaves the machine, and the one play of a + b, with traces of n, k and `trace` cells
pub record PlayParts (i : Instrument) (m : Machine) (scratch a b n k trace C C' : ℕ) (S S' F F' : List Float) : Type 0 where
  pub first : does i m (Call.play scratch a n) ≡ (moved_to m (m.t + a), Reply.played (length F) C S F)
  pub next : does i (moved_to m (m.t + a)) (Call.play scratch b k) ≡ (moved_to m (m.t + (a + b)), Reply.played (length F') C' S' F')
  pub whole : does i m (Call.play scratch (a + b) trace) ≡ (moved_to m (m.t + (a + b)), Reply.played (length F + length F') C' (S ++ S') (F ++ F'))
  -- what lets the rest be cut again
  pub rest : play_refusal i (m.t + a) scratch b k ≡ 0

-- a play of a + b samples that is not refused: the parts leave what the whole leaves, their numbers add up to its number, the last one's
-- contacts are its own, and so are their samples and forces one after the other
pub play_parts : (i : Instrument) (m : Machine) (scratch a b n k trace : ℕ) → a ≤ n → b ≤ k → play_refusal i m.t scratch (a + b) trace ≡ 0
    → PlayParts i m scratch a b n k trace (render_contacts i m.score (m.t + a)) (render_contacts i m.score (m.t + (a + b)))
    (block_samples i m.score m.t a) (block_samples i m.score (m.t + a) b)
    (block_forces i m.score m.t a) (block_forces i m.score (m.t + a) b)
unfolding does_to
play_parts i m scratch a b n k trace ha hb e =
    let fine = play_passed i m.t scratch (a + b) trace e in
    let there : m.t + a + b ≡ m.t + (a + b) = omega arith in
    let fits : play_refusal i m.t scratch a n ≡ 0 = (play_parts_refused i m.t scratch (a + b) trace).fits fine.1 fine.2 a n (omega arith) ha ∙ e in
    let rest : play_refusal i (m.t + a) scratch b k ≡ 0 = play_alike i scratch (m.t + a) b k m.t (a + b) trace hb (omega (arith, fine)) fine.1 fine.2 ∙ e in
    record {
      first = rw fits;
      next = rw (rest, there);
      whole = rw (
        e,
        samples_parts i m.score m.t a b,
        forces_parts i m.score m.t a b,
        length-append (block_forces i m.score m.t a)
            (block_forces i m.score (m.t + a) b),
      );
      rest = rest;
    }
