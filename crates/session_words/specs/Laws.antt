-- Every session is read back from its words, and they are told to be a session's. `FitSession` says what every value of the record's type
-- has and a definition alone cannot see. Assumes nothing.
use Rattle.std.specs.Prelude.{◌≡◌, refl, Bool, false, cond, ℕ, suc, ◌*◌, ◌%◌, ◌≤◌, ◌<◌, eqb, leb, Float, length, get_or, drop}
use Rattle.std.proofs.Math.Path.{sym, ap}
use Rattle.std.proofs.Common.{◌∙◌, drop-drop, eq-eqb, le-leb, leb-true}
use Rattle.std.proofs.Math.Bool.{true}
use mathlib.Core.List.{List, [], ◌∷◌, ◌++◌, append-nil}
use native.Mathlib.Omega.{arith}
use Rattle.std.specs.Float.Ieee.{binary64, of_bits}
use Rattle.std.specs.Float.Ieee.Bits.{of_bits-to_bits, of_bits-fits}
use Rattle.std.proofs.Math.ListN.{length-append}
use Rattle.std.proofs.Math.Seq.{drop_at}
use Rattle.counting.specs.Every.{every}
use Rattle.little_endian.specs.Floats.{Fit}
use Rattle.score.specs.declared.Event.{Event}
use Rattle.score.specs.declared.Event.TheVariants.{NoteOn, NoteOff, Pedal, HandDamp}
use Rattle.score.specs.declared.TimedEvent.{TimedEvent}
use Rattle.session_cues.specs.declared.Cue.{Cue}
use Rattle.session_record.specs.declared.Session.{Session}
use Rattle.session_words.specs.Layout.{event_size, timed_size, cue_size, cue_piano_offset, events_offset, cues_offset, piano_offset, session_size}
use Rattle.session_words.specs.Items.{joined, items_of, AllOf, joined_length, items_back, items_pass, items_length, all_items}
use Rattle.session_words.specs.Piano.{bit_of, piano_words, piano_of, is_piano}
use Rattle.session_words.specs.PianoLaws.{FitPiano, flag_back, piano_length, piano_back, piano_passes, fit_piano_of}
use Rattle.session_words.specs.Session.{is_event, event_of, event_words, timed_words, timed_of, cue_words, cue_of, words_of, session_of, is_timed, is_cue, counted_events, is_session}

unfoldable pub FitEvent : Event → Type 0
FitEvent (NoteOn k v) = (k < 256) × Fit v
FitEvent (NoteOff k) = k < 256
FitEvent (Pedal d) = Unit {0}
FitEvent (HandDamp k) = k < 256

abbrev pub FitTimed : TimedEvent → Type 0
FitTimed e = FitEvent e.event

abbrev pub FitCue : Cue → Type 0
FitCue c = FitPiano c.piano

pub record FitSession (s : Session) : Type 0 where
  pub events_long : length s.events ≡ 64
  pub events : AllOf FitTimed s.events
  pub cues_long : length s.cues ≡ 4
  pub cues : AllOf FitCue s.cues
  pub piano : FitPiano s.piano

-- ---- the pieces

event_length : (e : Event) → length (event_words e) ≡ event_size
unfolding event_words
event_length (NoteOn k v) = refl
event_length (NoteOff k) = refl
event_length (Pedal d) = refl
event_length (HandDamp k) = refl

pub timed_size_lem : (e : TimedEvent) → length (timed_words e) ≡ timed_size
unfolding timed_words
timed_size_lem e = ap suc (event_length e.event)

pub cue_length : (c : Cue) → FitCue c → length (cue_words c) ≡ cue_size
unfolding cue_words
cue_length c f = ap (λ (n : ℕ). suc (suc n)) (piano_length c.piano f)

below_256 : (k : ℕ) → k < 256 → k % 256 ≡ k
below_256 k h = omega arith

module _ (q : ℕ) (r : List ℕ) where
  event_back : (e : Event) → FitEvent e → timed_of (q ∷ (event_words e ++ r)) ≡ record { position = q; event = e }
  unfolding timed_of event_words event_of FitEvent
  event_back (NoteOn k v) f = rw (below_256 k f.0, of_bits-to_bits binary64 v f.1)
  event_back (NoteOff k) f = rw (below_256 k f)
  event_back (Pedal d) f = rw (flag_back d tt [])
  event_back (HandDamp k) f = rw (below_256 k f)

timed_back : (e : TimedEvent) → FitTimed e → (r : List ℕ) → timed_of (timed_words e ++ r) ≡ e
unfolding timed_words
timed_back e f r = event_back e.position r e.event f

cue_back : (c : Cue) → FitCue c → (r : List ℕ) → cue_of (cue_words c ++ r) ≡ c
unfolding cue_words cue_of
cue_back c f r = rw (flag_back c.kept tt [], piano_back c.piano f r)

-- ---- their words pass

event_passes : (e : Event) → FitEvent e → (q : ℕ) (r : List ℕ) → is_timed (q ∷ (event_words e ++ r)) ≡ true
unfolding is_event event_words FitEvent
event_passes (NoteOn k v) f q r = le-leb k 255 (omega (arith, f.0))
event_passes (NoteOff k) f q r = le-leb k 255 (omega arith)
event_passes (Pedal true) f q r = refl
event_passes (Pedal false) f q r = refl
event_passes (HandDamp k) f q r = le-leb k 255 (omega arith)

timed_passes : (e : TimedEvent) → FitTimed e → (r : List ℕ) → is_timed (timed_words e ++ r) ≡ true
unfolding timed_words
timed_passes e f r = event_passes e.event f e.position r

cue_passes : (c : Cue) → FitCue c → (r : List ℕ) → is_cue (cue_words c ++ r) ≡ true
unfolding cue_words is_cue
cue_passes c f r = go c.kept
  where
    go : (b : Bool) → is_cue (bit_of b ∷ c.position ∷ (piano_words c.piano ++ r)) ≡ true
    go true = piano_passes c.piano f r
    go false = refl

pub few_counted : (n : ℕ) → counted_events n ≤ 64
unfolding counted_events
few_counted n = go (leb n 64) refl
  where
    go : (b : Bool) → leb n 64 ≡ b → cond b n 64 ≤ 64
    go true e = leb-true n 64 e
    go false e = omega arith

-- ---- the session

module _ (s : Session) (f : FitSession s) where
  abbrev x1 : List ℕ
  x1 = joined timed_words s.events

  abbrev x2 : List ℕ
  x2 = joined cue_words s.cues

  abbrev x3 : List ℕ
  x3 = piano_words s.piano

  pub events_length : length x1 ≡ timed_size * 64
  events_length = joined_length FitTimed timed_words timed_size (λ e h. timed_size_lem e) s.events f.events ∙ ap (λ (n : ℕ). timed_size * n) f.events_long

  pub cues_length : length x2 ≡ cue_size * 4
  cues_length = joined_length FitCue cue_words cue_size cue_length s.cues f.cues ∙ ap (λ (n : ℕ). cue_size * n) f.cues_long

  pub words_length : length (words_of s) ≡ session_size
  unfolding words_of
  words_length =
      let n1 = events_length in
      let n2 = cues_length in
      let n3 = piano_length s.piano f.piano in
      let l2 = length-append x2 x3 in
      let l1 = length-append x1 (x2 ++ x3) in
      omega arith

  from_cues : drop cues_offset (words_of s) ≡ x2 ++ x3
  unfolding words_of
  from_cues = sym (drop-drop (timed_size * 64) events_offset (words_of s)) ∙ drop_at x1 (x2 ++ x3) (timed_size * 64) events_length

  from_piano : drop piano_offset (words_of s) ≡ x3 ++ []
  from_piano =
      sym (drop-drop (cue_size * 4) cues_offset (words_of s)) ∙ ap (drop (cue_size * 4)) from_cues ∙ drop_at x2 x3 (cue_size * 4) cues_length ∙ sym (append-nil x3)

  -- THE LAW: a session is read back from its words
  pub session_back : session_of (words_of s) ≡ s
  unfolding session_of words_of
  session_back =
      let h1 : items_of timed_of timed_size 64 (drop events_offset (words_of s)) ≡ s.events =
      ap (λ (n : ℕ). items_of timed_of timed_size n (x1 ++ (x2 ++ x3))) (sym f.events_long)
      ∙ items_back FitTimed timed_words timed_size (λ e h. timed_size_lem e) timed_of timed_back s.events f.events (x2 ++ x3) in
      let h2 : items_of cue_of cue_size 4 (drop cues_offset (words_of s)) ≡ s.cues =
      ap (items_of cue_of cue_size 4) from_cues ∙ ap (λ (n : ℕ). items_of cue_of cue_size n (x2 ++ x3)) (sym f.cues_long)
      ∙ items_back FitCue cue_words cue_size cue_length cue_of cue_back s.cues f.cues x3 in
      let h3 : piano_of (drop piano_offset (words_of s)) ≡ s.piano = ap piano_of from_piano ∙ piano_back s.piano f.piano [] in
      rw (h1, h2, h3)

  -- a session's words are told to be one's
  pub words_are : is_session (words_of s) ≡ true
  unfolding is_session words_of
  words_are =
      let events : every (items_of is_timed timed_size (counted_events s.count) (x1 ++ (x2 ++ x3))) ≡ true =
      items_pass FitTimed timed_words timed_size (λ e h. timed_size_lem e) is_timed timed_passes (counted_events s.count) s.events f.events
      (omega (arith, few_counted s.count, f.events_long)) (x2 ++ x3) in
      let cues : every (items_of is_cue cue_size 4 (drop cues_offset (words_of s))) ≡ true =
      ap (λ (l : List ℕ). every (items_of is_cue cue_size 4 l)) from_cues
      ∙ items_pass FitCue cue_words cue_size cue_length is_cue cue_passes 4 s.cues f.cues (omega (arith, f.cues_long)) x3 in
      let piano : is_piano (drop piano_offset (words_of s)) ≡ true = ap is_piano from_piano ∙ piano_passes s.piano f.piano [] in
      rw (eq-eqb (length (words_of s)) session_size words_length, events, cues, piano)

-- ---- whatever the words are, what is read from them is a value of the type

byte_of : (k : ℕ) → k % 256 < 256
byte_of k = omega arith

fit_event_of : (a b c : Bool) (k : ℕ) (p : Bool) (v : Float) → Fit v
    → FitEvent (cond a (NoteOn (k % 256) v) (cond b (NoteOff (k % 256)) (cond c (Pedal p) (HandDamp (k % 256)))))
unfolding FitEvent
fit_event_of true b c k p v f = (byte_of k, f)
fit_event_of false true c k p v f = byte_of k
fit_event_of false false true k p v f = tt
fit_event_of false false false k p v f = byte_of k

fit_timed_of : (w : List ℕ) → FitTimed (timed_of w)
unfolding timed_of event_of
fit_timed_of w =
    fit_event_of (eqb (get_or w 1 0) 0) (eqb (get_or w 1 0) 1) (eqb (get_or w 1 0) 2) (get_or w 2 0) (eqb (get_or w 2 0) 1) (of_bits binary64 (get_or w 3 0)) (of_bits-fits binary64 (get_or w 3 0))

fit_cue_of : (w : List ℕ) → FitCue (cue_of w)
unfolding cue_of
fit_cue_of w = fit_piano_of (drop cue_piano_offset w)

fit_of : (w : List ℕ) → FitSession (session_of w)
unfolding session_of
fit_of w =
    record {
      events_long = items_length timed_of timed_size 64 (drop events_offset w);
      events = all_items FitTimed timed_of fit_timed_of timed_size 64 (drop events_offset w);
      cues_long = items_length cue_of cue_size 4 (drop cues_offset w);
      cues = all_items FitCue cue_of fit_cue_of cue_size 4 (drop cues_offset w);
      piano = fit_piano_of (drop piano_offset w);
    }

-- THE LAW: whatever the words are, what is read from them is read again from its own words. So an accepted call that writes a session over
-- the words it was read from changes nothing that is read
pub words_again : (w : List ℕ) → session_of (words_of (session_of w)) ≡ session_of w
words_again w = session_back (session_of w) (fit_of w)
