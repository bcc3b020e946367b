-- How a row of the session is read and proved: what a reply shows, and the replies of a list of calls, one call after the other. Assumes nothing.
use Rattle.std.specs.Prelude.{◌≡◌, true, false, ℕ, ◌+◌, ◌-◌, ltb}
use Rattle.std.proofs.Math.Path.{refl}
use mathlib.Core.List.{List, [], ◌∷◌, map}
use Rattle.std.proofs.Common.{arith, le-ltb}
use Rattle.instrument.specs.declared.Instrument.{Instrument}
use Rattle.score.specs.declared.TimedEvent.{TimedEvent}
use Rattle.score.specs.declared.Event.TheVariants.{NoteOff}
use Rattle.positions.specs.Positions.{end, count}
use Rattle.machine.specs.Refusals.{scratch_cells}
use Rattle.machine.specs.Machine.{Machine, Call, Reply, opened, start_of, replies, replies_to, does, does_to}

-- go's number, an edit's t and number dropped; a refusal shows its number alone
abbrev pub shown : Reply → List ℕ
shown (Reply.refused n) = n ∷ []
shown (Reply.played k c s f) = []
shown Reply.cued = []
shown (Reply.went n) = n ∷ []
shown (Reply.edited t n) = t ∷ n ∷ []

abbrev pub answers : Instrument → List Call → List (List ℕ)
answers i calls = map shown (replies i opened calls)

abbrev pub inserted_at : ℕ → TimedEvent
inserted_at q = record { position = q; event = NoteOff 60 }

module _ (i : Instrument) where
  abbrev pub play : ℕ → Call
  play m = Call.play (scratch_cells i) m m

  abbrev pub go : ℕ → Call
  go p = Call.go (scratch_cells i) p

  abbrev pub insert_at : ℕ → Call
  insert_at q = Call.insert (inserted_at q)

  enough : ltb (scratch_cells i) (scratch_cells i) ≡ false
  enough = le-ltb (scratch_cells i) (scratch_cells i) (omega arith)

  -- One call after the other. Play and go ask for S scratch cells, and have just these; what else is tested computes.
  pub then_play : (p : Machine) (m : ℕ) (cs : List Call) (rs : List (List ℕ)) → ltb m m ≡ false → ltb end (p.t + m) ≡ false
      → map shown (replies i (record { score = p.score; t = p.t + m; cues = p.cues }) cs) ≡ rs → map shown (replies i p (play m ∷ cs)) ≡ [] ∷ rs
  unfolding replies_to does_to
  then_play p m cs rs e f h = rw (enough, e, f, h)

  pub then_go : (p : Machine) (q : ℕ) (cs : List Call) (rs : List (List ℕ)) → ltb end q ≡ false → ltb 1000000 (q - start_of p.t p.cues q) ≡ false
      → map shown (replies i (record { score = p.score; t = q; cues = p.cues }) cs) ≡ rs → map shown (replies i p (go q ∷ cs)) ≡ ((q - start_of p.t p.cues q) ∷ []) ∷ rs
  unfolding replies_to does_to
  then_go p q cs rs e f h = rw (enough, e, f, h)

  -- a go that would replay too much
  pub then_far : (p : Machine) (q : ℕ) (cs : List Call) (rs : List (List ℕ)) → ltb end q ≡ false → ltb 1000000 (q - start_of p.t p.cues q) ≡ true
      → map shown (replies i p cs) ≡ rs → map shown (replies i p (go q ∷ cs)) ≡ (16 ∷ []) ∷ rs
  unfolding replies_to does_to
  then_far p q cs rs e f h = rw (enough, e, f, h)

  pub then : (p : Machine) (c : Call) (cs : List Call) (rs : List (List ℕ)) → map shown (replies i (does i p c).0 cs) ≡ rs
      → map shown (replies i p (c ∷ cs)) ≡ shown (does i p c).1 ∷ rs
  unfolding replies_to
  then p c cs rs h = rw h

  pub done : (p : Machine) → map shown (replies i p []) ≡ []
  unfolding replies_to
  done p = refl

  abbrev pub cued : Machine
  cued = record { score = []; t = 150; cues = 100 ∷ [] }

  -- every row begins so
  pub begin : (cs : List Call) (rs : List (List ℕ)) → map shown (replies i cued cs) ≡ rs → answers i (play 100 ∷ Call.cue ∷ play 50 ∷ cs) ≡ [] ∷ [] ∷ [] ∷ rs
  unfolding does_to count
  begin cs rs h =
      then_play opened 100 _ _ refl refl
      (then (record { score = []; t = 100; cues = [] }) Call.cue _ _ (then_play (record { score = []; t = 100; cues = 100 ∷ [] }) 50 _ _ refl refl h))
