-- What each value stores, reads and tests of its words, over plain words. Assumes nothing.
use Rattle.std.proofs.Common.{◌≡◌, refl, sym, ap, ◌∙◌, Bool, true, false, cond, ◌&&◌, ℕ, suc, ◌+◌, ◌*◌, ◌%◌, List, [], ◌∷◌, ◌++◌, length, length-append, get_or, drop, drop-drop, arith, true≢false, eq-eqb, add-zero}
use mir.Val.{bool_byte}
use lib.Dec.{eqb, leb}
use Rattle.std.proofs.lemmas.Bool.{false≢true}
use lib.Seq.{get_or-drop}
use borrow.Author.Tests.{ne_eqb}
use Rattle.std.specs.Float.Ieee.{Float}
use Rattle.std.proofs.lemmas.List.Edits.{sets}
use Rattle.counting.specs.Every.{every}
use Rattle.little_endian.specs.Stores.{sets_next, sets_whole}
use Rattle.std.specs.Prelude.{Option, Some, None}
use Rattle.points.specs.declared.Flight.{Flight}
use Rattle.sample.specs.declared.Motion.{Motion}
use Rattle.score.specs.declared.Event.{Event}
use Rattle.score.specs.declared.Event.TheVariants.{NoteOn, NoteOff, Pedal, HandDamp}
use Rattle.score.specs.declared.TimedEvent.{TimedEvent}
use Rattle.score.specs.declared.Piano.{Piano}
use Rattle.session_cues.specs.declared.Cue.{Cue}
use Rattle.session_record.specs.declared.Session.{Session}
use Rattle.session_words.specs.Layout.{motion_size, piano_size, peak_offset, hand_damped_offset, dampers_offset, contacts_offset, pedal_offset, motion_offset, timed_size, cue_size, cue_piano_offset, events_offset, cues_offset, piano_offset, session_size}
use Rattle.session_words.specs.Items.{joined, items_of}
use Rattle.session_words.specs.Piano.{bit_of, flag_word, flag_of, float_word, float_of, count_word, count_of, motion_words, piano_words, hammer_from, motion_of, piano_of, is_flag, is_piano}
use Rattle.session_words.specs.Session.{is_event, event_of, timed_words, timed_of, cue_words, cue_of, words_of, session_of, is_timed, is_cue, counted_events, has_meaning, is_session, session_in, PutMeets}
use Rattle.session_words.specs.Laws.{FitSession, words_length, session_back, words_are}

-- ---- writing

-- a run, then the run behind it
pub follows : (l l1 l2 : List ℕ) (a b : ℕ) (xs ys : List ℕ) → l1 ≡ sets l a xs → l2 ≡ sets l1 b ys → b ≡ a + length xs → l2 ≡ sets l a (xs ++ ys)
follows l l1 l2 a b xs ys e1 e2 n = rw (e2, e1) (sets_next l xs ys a b n)

-- words that are numbers
pub numbers_joined : (xs : List ℕ) → joined count_word xs ≡ xs
unfolding joined
numbers_joined [] = refl
numbers_joined (x ∷ xs) = ap (λ (l : List ℕ). x ∷ l) (numbers_joined xs)

-- a piano's parts, one behind the other, each where the one before it ends
module _ (p : Piano) where
  abbrev x1 : List ℕ
  x1 = joined flag_word p.held

  abbrev x2 : List ℕ
  x2 = joined flag_word p.hand_damped

  abbrev x3 : List ℕ
  x3 = joined float_word p.damper_r

  abbrev x4 : List ℕ
  x4 = joined count_word p.contact_samples

  abbrev x6 : List ℕ
  x6 = motion_words p.motion

  module _ (n1 : length x1 ≡ 16) (n2 : length x2 ≡ 16) (n3 : length x3 ≡ 16) (n4 : length x4 ≡ 16) where
    pub piano_stores : (l l1 l2 l3 l4 l5 l6 : List ℕ) (at : ℕ) → l1 ≡ sets l at x1 → l2 ≡ sets l1 (at + hand_damped_offset) x2
        → l3 ≡ sets l2 (at + dampers_offset) x3 → l4 ≡ sets l3 (at + contacts_offset) x4 → l5 ≡ sets l4 (at + pedal_offset) (flag_word p.pedal)
        → l6 ≡ sets l5 (at + motion_offset) x6 → l6 ≡ sets l at (piano_words p)
    unfolding piano_words
    piano_stores l l1 l2 l3 l4 l5 l6 at e1 e2 e3 e4 e5 e6 =
        let r5 = follows l4 l5 l6 (at + pedal_offset) (at + motion_offset) (flag_word p.pedal) x6 e5 e6 (omega arith) in
        let r4 = follows l3 l4 l6 (at + contacts_offset) (at + pedal_offset) x4 (flag_word p.pedal ++ x6) e4 r5 (omega arith) in
        let r3 = follows l2 l3 l6 (at + dampers_offset) (at + contacts_offset) x3 (x4 ++ (flag_word p.pedal ++ x6)) e3 r4 (omega arith) in
        let r2 = follows l1 l2 l6 (at + hand_damped_offset) (at + dampers_offset) x2 (x3 ++ (x4 ++ (flag_word p.pedal ++ x6))) e2 r3 (omega arith) in
        follows l l1 l6 at (at + hand_damped_offset) x1 (x2 ++ (x3 ++ (x4 ++ (flag_word p.pedal ++ x6)))) e1 r2 (omega arith)

    pub piano_size_is : length x6 ≡ motion_size → length (piano_words p) ≡ piano_size
    unfolding piano_words
    piano_size_is n6 =
        let l4 = length-append x4 (flag_word p.pedal ++ x6) in
        let l3 = length-append x3 (x4 ++ (flag_word p.pedal ++ x6)) in
        let l2 = length-append x2 (x3 ++ (x4 ++ (flag_word p.pedal ++ x6))) in
        let l1 = length-append x1 (x2 ++ (x3 ++ (x4 ++ (flag_word p.pedal ++ x6)))) in
        omega arith

-- and a session's
module _ (s : Session) where
  abbrev z1 : List ℕ
  z1 = joined timed_words s.events

  abbrev z2 : List ℕ
  z2 = joined cue_words s.cues

  abbrev z3 : List ℕ
  z3 = piano_words s.piano

  module _ (n1 : length z1 ≡ timed_size * 64) (n2 : length z2 ≡ cue_size * 4) where
    pub session_stores : (l l1 l2 l3 l4 l5 : List ℕ) (at : ℕ) → l1 ≡ sets l at (count_word s.t) → l2 ≡ sets l1 (at + 1) (count_word s.count)
        → l3 ≡ sets l2 (at + events_offset) z1 → l4 ≡ sets l3 (at + cues_offset) z2 → l5 ≡ sets l4 (at + piano_offset) z3
        → l5 ≡ sets l at (words_of s)
    unfolding words_of
    session_stores l l1 l2 l3 l4 l5 at e1 e2 e3 e4 e5 =
        let r4 = follows l3 l4 l5 (at + cues_offset) (at + piano_offset) z2 z3 e4 e5 (omega arith) in
        let r3 = follows l2 l3 l5 (at + events_offset) (at + cues_offset) z1 (z2 ++ z3) e3 r4 (omega arith) in
        let r2 = follows l1 l2 l5 (at + 1) (at + events_offset) (count_word s.count) (z1 ++ (z2 ++ z3)) e2 r3 (omega arith) in
        follows l l1 l5 at (at + 1) (count_word s.t) (count_word s.count ++ (z1 ++ (z2 ++ z3))) e1 r2 (omega arith)

    pub session_size_is : length z3 ≡ piano_size → length (words_of s) ≡ session_size
    unfolding words_of
    session_size_is n3 =
        let l2 = length-append z2 z3 in
        let l1 = length-append z1 (z2 ++ z3) in
        omega arith

-- ---- reading

module _ (w : List ℕ) (at : ℕ) where
  -- word k of those from a place on
  place : (k : ℕ) → get_or (drop at w) k 0 ≡ get_or (drop (at + k) w) 0 0
  place k = get_or-drop at w k 0 ∙ ap (λ (n : ℕ). get_or w n 0) (sym (add-zero (at + k))) ∙ sym (get_or-drop (at + k) w 0 0)

  pub hammer_flies : (k : ℕ) (y v : Float) → true ≡ flag_of (drop at w) → k ≡ count_of (drop (at + 1) w) → y ≡ float_of (drop (at + 2) w)
      → v ≡ float_of (drop (at + 3) w) → Some (record { key_index = k; y_h = y; v_h = v }) ≡ hammer_from (drop at w)
  unfolding hammer_from
  hammer_flies k y v ef ek ey ev = rw (ek, ey, ev, place 1, place 2, place 3, ← ef)

  pub hammer_rests : false ≡ flag_of (drop at w) → None ≡ hammer_from (drop at w)
  unfolding hammer_from
  hammer_rests ef = rw (← ef)

  pub motion_read : (h : Option Flight) (x : Float) → h ≡ hammer_from (drop at w) → x ≡ float_of (drop (at + peak_offset) w)
      → record { hammer = h; peak_force = x } ≡ motion_of (drop at w)
  unfolding motion_of
  motion_read h x eh ex = rw (eh, ex, place peak_offset)

  pub piano_read : (held hand : List Bool) (damper : List Float) (counts : List ℕ) (pedal : Bool) (m : Motion) → held ≡ items_of flag_of 1 16 (drop at w)
      → hand ≡ items_of flag_of 1 16 (drop (at + hand_damped_offset) w) → damper ≡ items_of float_of 1 16 (drop (at + dampers_offset) w)
      → counts ≡ items_of count_of 1 16 (drop (at + contacts_offset) w) → pedal ≡ flag_of (drop (at + pedal_offset) w)
      → m ≡ motion_of (drop (at + motion_offset) w)
      → record { held = held; hand_damped = hand; damper_r = damper; contact_samples = counts; pedal = pedal; motion = m } ≡ piano_of (drop at w)
  unfolding piano_of
  piano_read held hand damper counts pedal m e1 e2 e3 e4 e5 e6 =
      rw (
        e1,
        e2,
        e3,
        e4,
        e5,
        e6,
        drop-drop hand_damped_offset at w,
        drop-drop dampers_offset at w,
        drop-drop contacts_offset at w,
        drop-drop pedal_offset at w,
        drop-drop motion_offset at w,
      )

  pub timed_read : (q kind key : ℕ) (v : Float) (e : Event) → q ≡ count_of (drop at w) → kind ≡ count_of (drop (at + 1) w)
      → key ≡ count_of (drop (at + 2) w) → v ≡ float_of (drop (at + 3) w) → e ≡ event_of kind key v
      → record { position = q; event = e } ≡ timed_of (drop at w)
  unfolding timed_of
  timed_read q kind key v e eq ek ey ev ee = rw (eq, ee, ek, ey, ev, place 1, place 2, place 3)

  pub cue_read : (kept : Bool) (q : ℕ) (p : Piano) → kept ≡ flag_of (drop at w) → q ≡ count_of (drop (at + 1) w)
      → p ≡ piano_of (drop (at + cue_piano_offset) w) → record { kept = kept; position = q; piano = p } ≡ cue_of (drop at w)
  unfolding cue_of
  cue_read kept q p ek eq ep = rw (ek, eq, ep, place 1, drop-drop cue_piano_offset at w)

  pub session_read : (t count : ℕ) (es : List TimedEvent) (cs : List Cue) (p : Piano) → t ≡ count_of (drop at w) → count ≡ count_of (drop (at + 1) w)
      → es ≡ items_of timed_of timed_size 64 (drop (at + events_offset) w) → cs ≡ items_of cue_of cue_size 4 (drop (at + cues_offset) w)
      → p ≡ piano_of (drop (at + piano_offset) w)
      → record { t = t; count = count; events = es; cues = cs; piano = p } ≡ session_of (drop at w)
  unfolding session_of
  session_read t count es cs p e1 e2 e3 e4 e5 =
      rw (e1, e2, e3, e4, e5, place 1, drop-drop events_offset at w, drop-drop cues_offset at w, drop-drop piano_offset at w)

  -- ---- the tests

  pub piano_tested : (held damped pedal motion : Bool) → held ≡ every (items_of is_flag 1 16 (drop at w))
      → damped ≡ every (items_of is_flag 1 16 (drop (at + hand_damped_offset) w)) → pedal ≡ is_flag (drop (at + pedal_offset) w)
      → motion ≡ is_flag (drop (at + motion_offset) w) → (held && damped && pedal && motion) ≡ is_piano (drop at w)
  unfolding is_piano
  piano_tested held damped pedal motion e1 e2 e3 e4 =
      rw (drop-drop hand_damped_offset at w, drop-drop pedal_offset at w, drop-drop motion_offset at w, e1, e2, e3, e4)

  pub timed_tested : (kind key : ℕ) (r : Bool) → kind ≡ count_of (drop (at + 1) w) → key ≡ count_of (drop (at + 2) w) → r ≡ is_event kind key
      → r ≡ is_timed (drop at w)
  timed_tested kind key r ek ey er = rw (place 1, place 2, ← ek, ← ey) er

  first : get_or w at 0 ≡ get_or (drop at w) 0 0
  first = ap (λ (n : ℕ). get_or w n 0) (sym (add-zero at)) ∙ sym (get_or-drop at w 0 0)

  pub cue_unkept : get_or w at 0 ≡ 0 → true ≡ is_cue (drop at w)
  unfolding is_cue
  cue_unkept z = rw (eq-eqb (get_or (drop at w) 0 0) 0 (sym first ∙ z))

  pub cue_kept : get_or w at 0 ≡ 1 → (piano : Bool) → piano ≡ is_piano (drop (at + cue_piano_offset) w) → piano ≡ is_cue (drop at w)
  unfolding is_cue
  cue_kept o piano ep = let here : get_or (drop at w) 0 0 ≡ 1 = sym first ∙ o in rw (here, drop-drop cue_piano_offset at w) ep

  pub cue_unknown : (get_or w at 0 ≡ 0 → ⊥) → (get_or w at 0 ≡ 1 → ⊥) → false ≡ is_cue (drop at w)
  unfolding is_cue
  cue_unknown z o = rw (← first, ne_eqb (get_or w at 0) 0 z, ne_eqb (get_or w at 0) 1 o)

  pub session_tested : (n : ℕ) (a b c : Bool) → n ≡ counted_events (count_of (drop (at + 1) w))
      → a ≡ every (items_of is_timed timed_size n (drop (at + events_offset) w))
      → b ≡ every (items_of is_cue cue_size 4 (drop (at + cues_offset) w)) → c ≡ is_piano (drop (at + piano_offset) w)
      → (a && b && c) ≡ has_meaning (drop at w)
  unfolding has_meaning
  session_tested n a b c en ea eb ec =
      rw (ea, eb, ec, en, place 1, drop-drop events_offset at w, drop-drop cues_offset at w, drop-drop piano_offset at w)

-- ---- the whole

pub byte_bit : (b : Bool) → bool_byte b ≡ bit_of b
byte_bit true = refl
byte_bit false = refl

and_false : (b : Bool) → (b && false) ≡ false
and_false true = refl
and_false false = refl

module _ (w : List ℕ) where
  pub session_there : (s : Session) → length w ≡ session_size → has_meaning w ≡ true → s ≡ session_of w → Some s ≡ session_in w
  unfolding session_in is_session
  session_there s h m e = rw (eq-eqb (length w) session_size h, m, e)

  pub session_unknown : has_meaning w ≡ false → None ≡ session_in w
  unfolding session_in is_session
  session_unknown m = rw (m, and_false (eqb (length w) session_size))

  pub session_short : (length w ≡ session_size → ⊥) → None ≡ session_in w
  unfolding session_in is_session
  session_short h = rw (ne_eqb (length w) session_size h)

module _ (s : Session) (f : FitSession s) where
  pub put_whole : (w w' : List ℕ) → length w ≡ session_size → w' ≡ sets w 0 (words_of s) → PutMeets s w true w'
  put_whole w w' h e =
      let whole : w' ≡ words_of s = e ∙ sets_whole w (words_of s) (words_length s f ∙ sym h) in
      record {
        answer = sym (eq-eqb (length w) session_size h);
        writes = λ _. whole;
        keeps = λ z. absurd (true≢false z);
        tells = λ _. ap is_session whole ∙ words_are s f;
        back = λ _. ap session_of whole ∙ session_back s f;
      }

pub put_none : (s : Session) (w : List ℕ) → (length w ≡ session_size → ⊥) → PutMeets s w false w
put_none s w h =
    record {
      answer = sym (ne_eqb (length w) session_size h);
      writes = λ z. absurd (false≢true z);
      keeps = λ _. refl;
      tells = λ z. absurd (false≢true z);
      back = λ z. absurd (false≢true z);
    }
