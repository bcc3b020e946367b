-- Document 02, W7: "scratch content still decides nothing". A call's promise has none of scratch's cells; it has their number, and of that
-- whether 9 refuses it. What else the promise has fixes all that the call leaves. So the same calls on one session and work memory, at each
-- of them with enough scratch in both runs or too little in both, get the same replies and leave the same session and the same work memory,
-- cell for cell, whatever stood in scratch, and in output and trace. Assumes nothing.
use Rattle.std.specs.Prelude.{◌≡◌, refl, Bool, true, false, List, [], ◌∷◌, ℕ, Float, length, take}
use Rattle.std.proofs.Common.{sym, ◌∙◌, ap}
use Rattle.counting.specs.Meets.{meets_both}
use Rattle.instrument.specs.declared.Instrument.{Instrument}
use Rattle.score.specs.declared.TimedEvent.{TimedEvent}
use Rattle.render.specs.Render.{forces}
use Rattle.positions.specs.Positions.{is_in}
use Rattle.machine.specs.Machine.{Call, Reply}
use Rattle.machine.specs.Refusals.{scratch_test}
use Rattle.session_record.specs.declared.Session.{Session}
use Rattle.session_record.specs.Record.{score_of}
use Rattle.session.specs.declared.Outcome.{Outcome}
use Rattle.session.specs.Calls.{kept_by, state_now, refused_with, Plays, Cues, Goes, Edits}
use Rattle.session_theorem.specs.Runs.{reply_of, CallMeets, Runs}
use Rattle.session_theorem.specs.Memory.{front_now}

-- the call with so many scratch cells; only play and go have any
abbrev pub with_scratch : ℕ → Call → Call
with_scratch n (Call.play scratch m trace) = Call.play n m trace
with_scratch n Call.cue = Call.cue
with_scratch n (Call.go scratch p) = Call.go n p
with_scratch n (Call.insert e) = Call.insert e
with_scratch n (Call.remove index) = Call.remove index

-- two lists of the same calls: what each lends of scratch is enough in both, or in neither
pub data SameButScratch (i : Instrument) : List Call → List Call → Type 0 where
  done : SameButScratch i [] []
  next : {cs cs' : List Call} (c : Call) (a b : ℕ) → scratch_test i a ≡ scratch_test i b → SameButScratch i cs cs'
      → SameButScratch i (with_scratch a c ∷ cs) (with_scratch b c ∷ cs')

-- what a call leaves, twice: its answer with the session, work memory, and its reply
pub record LeavesSame (r : Outcome) (work out trace : List Float) (r' : Outcome) (work' out' trace' : List Float) : Type 0 where
  pub outcome : r ≡ r'
  pub memory : work ≡ work'
  pub reply : reply_of r.answer out trace ≡ reply_of r'.answer out' trace'

module _ (i : Instrument) (s : Session) (work : List Float) (r r' : Outcome) (left left' out₁ trace₁ out₂ trace₂ : List Float) where
  abbrev Agree : Type 0
  Agree = LeavesSame r left out₁ trace₁ r' left' out₂ trace₂

  -- refused by the same number
  both_refused : (n n' : ℕ) → n ≡ n' → (r ≡ refused_with s n) × (left ≡ work) → (r' ≡ refused_with s n') × (left' ≡ work) → Agree
  both_refused n n' e k k' = record { outcome = rw (k.0, k'.0, e) refl; memory = k.1 ∙ sym k'.1; reply = rw (k.0, k'.0, e) refl }

  -- accepted, with the same answer, session and memory, where the reply is the answer's alone or has the same samples and forces
  both_accepted : r.answer ≡ r'.answer → r.session ≡ r'.session → left ≡ left' → reply_of r.answer out₁ trace₁ ≡ reply_of r.answer out₂ trace₂ → Agree
  both_accepted a k m e =
      record {
        outcome = ap {B = Outcome} (λ x. record { answer = x; session = r.session }) a ∙ ap {B = Outcome} (λ x. record { answer = r'.answer; session = x }) k;
        memory = m;
        reply = e ∙ ap (λ x. reply_of x out₂ trace₂) a;
      }

  -- the first k cells of either trace are the play's forces
  plays_same : (out trace out₀ trace₀ : List Float) → length out ≡ length out₀
      → Plays i s work out trace r left out₁ trace₁ → Plays i s work out₀ trace₀ r' left' out₂ trace₂ → Agree
  plays_same out trace out₀ trace₀ outs d d' =
      let pushed = forces i (score_of s) s.t (length out) (state_now i s work) in
      let traced : take (length pushed) trace₁ ≡ pushed = front_now (length pushed) pushed _ trace₁ d.pushes refl in
      let traced' : take (length pushed) trace₂ ≡ pushed = front_now (length pushed) pushed _ trace₂ (rw (sym outs) at d'.pushes) refl in
      both_accepted (rw (d.answer, d'.answer, outs) refl) (rw (d.session, d'.session, outs) refl) (rw (d.memory, d'.memory, outs) refl)
      (rw (d.answer, d.sound, d'.sound, traced, traced', outs) refl)

  -- t is kept already, or a free slot is taken
  cues_same : (b : Bool) → is_in s.t (kept_by s) ≡ b → Cues i s work r left → Cues i s work r' left' → Agree
  cues_same true e d d' =
      let k = d.again e in
      let k' = d'.again e in
      both_accepted (d.answer ∙ sym d'.answer) (k.0 ∙ sym k'.0) (k.1 ∙ sym k'.1) (rw d.answer refl)
  cues_same false e d d' =
      let k = d.adds e in
      let k' = d'.adds e in
      both_accepted (d.answer ∙ sym d'.answer) (k.0 ∙ sym k'.0) (k.1 ∙ sym k'.1) (rw d.answer refl)

  goes_same : (p start : ℕ) → Goes i s work p start r left → Goes i s work p start r' left' → Agree
  goes_same p start d d' =
      both_accepted (d.answer ∙ sym d'.answer) (d.session ∙ sym d'.session) (d.memory ∙ sym d'.memory) (rw d.answer refl)

  edits_same : (q number : ℕ) (events : List TimedEvent) → Edits i s work q number events r left → Edits i s work q number events r' left' → Agree
  edits_same q number events d d' =
      both_accepted (d.answer ∙ sym d'.answer) (d.session ∙ sym d'.session) (d.memory ∙ sym d'.memory) (rw d.answer refl)

  -- one call, with a and b scratch cells that 9 refuses alike
  alike_refused : (c : Call) (a b : ℕ) (alike : scratch_test i a ≡ scratch_test i b) (out trace out₀ trace₀ : List Float)
      → CallMeets i s work (with_scratch a c) out trace r left out₁ trace₁ → CallMeets i s work (with_scratch b c) out₀ trace₀ r' left' out₂ trace₂ → Agree
  alike_refused (Call.play _ m n) a b e out trace out₀ trace₀ h h' =
      let outs = h.0 ∙ sym h'.0 in
      meets_both _ _ h.2 h'.2 (rw (e, outs, h.1 ∙ sym h'.1) refl) (λ q k k'. both_refused _ _ q (k.0, k.1) (k'.0, k'.1))
      (λ z d d'. plays_same out trace out₀ trace₀ outs d d')
  alike_refused Call.cue a b e out trace out₀ trace₀ h h' = meets_both _ _ h h' refl (both_refused _ _) (λ z d d'. cues_same _ refl d d')
  alike_refused (Call.go _ p) a b e out trace out₀ trace₀ h h' = meets_both _ _ h h' (rw e refl) (both_refused _ _) (λ z d d'. goes_same _ _ d d')
  alike_refused (Call.insert x) a b e out trace out₀ trace₀ h h' = meets_both _ _ h h' refl (both_refused _ _) (λ z d d'. edits_same _ _ _ d d')
  alike_refused (Call.remove index) a b e out trace out₀ trace₀ h h' = meets_both _ _ h h' refl (both_refused _ _) (λ z d d'. edits_same _ _ _ d d')

  -- one call: enough scratch twice, or too little twice
  pub any_scratch : (c : Call) (a b : ℕ) → scratch_test i a ≡ scratch_test i b → (out trace out₀ trace₀ : List Float)
      → CallMeets i s work (with_scratch a c) out trace r left out₁ trace₁ → CallMeets i s work (with_scratch b c) out₀ trace₀ r' left' out₂ trace₂ → Agree
  any_scratch c a b e = alike_refused c a b e

-- a list of calls
pub scratch_decides_nothing : (i : Instrument) {s s₁ s₂ : Session} {work work₁ work₂ : List Float} {cs cs' : List Call} {rs rs' : List Reply}
    → SameButScratch i cs cs' → Runs i s work cs rs s₁ work₁ → Runs i s work cs' rs' s₂ work₂ → (rs ≡ rs') × (s₁ ≡ s₂) × (work₁ ≡ work₂)
scratch_decides_nothing i SameButScratch.done Runs.done Runs.done = (refl, refl, refl)
scratch_decides_nothing i (SameButScratch.next c a b e same) (Runs.next {s = s} {work = work} _ out trace r left out₁ trace₁ h rest)
    (Runs.next _ out₀ trace₀ r' left' out₂ trace₂ h' rest') =
    let t = alike_refused i s work r r' left left' out₁ trace₁ out₂ trace₂ c a b e out trace out₀ trace₀ h h' in
    let u = scratch_decides_nothing i same rest (rw (sym t.outcome, sym t.memory) at rest') in
    (cc (t.reply, u.0), u.1, u.2)
