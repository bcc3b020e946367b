-- Two sessions with work memories that agree but for what decides nothing (specs/Past.antt) get the same replies from every list of calls,
-- and agree again afterwards. Assumes nothing.
use Rattle.std.specs.Prelude.{◌≡◌, Bool, ◌&&◌, List, ◌∷◌, ◌++◌, map, eqb, leb, ltb, Float, take, drop, get_or, set, Result}
use Rattle.std.proofs.Math.Path.{refl, sym, ap}
use Rattle.std.proofs.Common.{◌∙◌, arith, eqb-true, ltb-true, length-set, length-take-le, get_or-set_other, one-add}
use Rattle.std.proofs.Math.Bool.{true, false, cond, not}
use Prim.Native.Nat.{ℕ, zero, suc, ◌+◌, ◌-◌, ◌*◌, ◌<◌, ◌≤◌}
use Rattle.std.proofs.lemmas.Bool.{eqb-false}
use Rattle.std.proofs.Math.ListN.{length, get_or-map}
use Rattle.std.proofs.lemmas.List.{length-map}
use Rattle.cells.specs.Splice.{part, splice}
use Rattle.counting.specs.Meets.{meets_both}
use Rattle.instrument.specs.declared.Instrument.{Instrument}
use Rattle.instrument.specs.Work.{part_cells}
use Rattle.score.specs.declared.TimedEvent.{TimedEvent}
use Rattle.score.specs.Events.{State}
use Rattle.score.specs.Score.{no_event}
use Rattle.score.specs.Contacts.{contacts_of}
use Rattle.render.specs.Render.{silence, run, forces}
use Rattle.positions.specs.Positions.{is_in}
use Rattle.positions.specs.Laws.{and_true}
use Rattle.score_edits.specs.Edits.{placed, removed}
use Rattle.machine.specs.Machine.{Call, Reply, start_of, settled}
use Rattle.session_cues.specs.declared.Cue.{Cue}
use Rattle.session_cues.specs.Cues.{kept_of, stands_at, slot_at, free_slot, drop_above, sound_cue, sound_cue_to, sound_cues, sound_cues_to}
use Rattle.session_cues.specs.Laws.{slot_in, slot_kept}
use Rattle.session_record.specs.declared.Session.{Session}
use Rattle.session_record.specs.Record.{score_of, sound_session_to, record_refusal}
use Rattle.session_record.specs.Laws.{Passed, CuePassed, passed_play, passed_cue, passed_go, passed_insert, passed_remove}
use Rattle.session.specs.declared.Outcome.{Outcome}
use Rattle.session.specs.Calls.{kept_by, empty_cue, cue_at, state_now, state_cue, held_at, refused_with, Plays, PlayMeets, Cues, CueMeets, Goes}
use Rattle.session.specs.Calls.{GoMeets, Edits, InsertMeets, RemoveMeets}
use Rattle.session.specs.Laws.{get_any, held_length}
use Rattle.refusal.specs.declared.Refusal.{Refusal}
use Rattle.energies.specs.declared.Energies.{Energies}
use Rattle.energies.specs.Energy.{no_energies_for, EnergiesMeet}
use Rattle.energies.specs.Laws.{first_part_decides}
use Rattle.session_theorem.specs.Runs.{reply_of, CallMeets, Runs}
use Rattle.session_theorem.specs.Memory.{front_now, front_cue, front_length, slot_now, slot_new, slot_other, slot_length, run_cells}
use Rattle.session_theorem.specs.PastKeys.{of_keys, cue_of_keys, SameState, same_contacts, same_sound_piano, same_sound_cue, same_run, same_samples}
use Rattle.session_theorem.specs.PastKeys.{same_forces}
use Rattle.session_theorem.specs.Arrays.{placed_score, placed_long, removed_score, removed_long, free_slot_there}
use Rattle.session_theorem.specs.Past.{SameCues, SameMemory, Alike, SameOutcome}

-- ---- what is asked of the slots

module _ (keys : ℕ) where
  same_kept : {a b : List Cue} → SameCues keys a b → kept_of a ≡ kept_of b
  unfolding kept_of
  same_kept SameCues.no_more = refl
  same_kept (SameCues.kept {c = c} {d = d} {a = a} e h) =
      ap (λ (x : Cue). cond x.kept (x.position ∷ kept_of a) (kept_of a)) e ∙ ap (λ l. cond d.kept (d.position ∷ l) l) (same_kept h)
  same_kept (SameCues.free e f h) = rw (e, f) (same_kept h)

  same_sound : {a b : List Cue} → SameCues keys a b → sound_cues keys a ≡ sound_cues keys b
  unfolding sound_cues_to sound_cue_to
  same_sound SameCues.no_more = refl
  same_sound (SameCues.kept {c = c} {d = d} {a = a} e h) =
      ap (λ (x : Cue). sound_cue keys c && not (x.kept && is_in x.position (kept_of a)) && sound_cues keys a) e
      ∙ ap (λ (t : Bool). t && not (d.kept && is_in d.position (kept_of a)) && sound_cues keys a) (same_sound_cue keys c d e)
      ∙ rw (same_kept h, same_sound h) refl
  same_sound (SameCues.free e f h) = rw (e, f) (same_sound h)

  same_slot : (x : ℕ) {a b : List Cue} → SameCues keys a b → slot_at x a ≡ slot_at x b
  same_slot x SameCues.no_more = refl
  same_slot x (SameCues.kept {c = c} {d = d} {a = a} e h) =
      ap (λ (y : Cue). cond (not (stands_at x y)) (1 + slot_at x a) 0) e ∙ ap (λ n. cond (not (stands_at x d)) (1 + n) 0) (same_slot x h)
  same_slot x (SameCues.free e f h) = rw (e, f) (ap (λ n. 1 + n) (same_slot x h))

  same_free : {a b : List Cue} → SameCues keys a b → free_slot a ≡ free_slot b
  same_free SameCues.no_more = refl
  same_free (SameCues.kept {c = c} {d = d} {a = a} e h) =
      ap (λ (x : Cue). cond (not (not x.kept)) (1 + free_slot a) 0) e ∙ ap (λ n. cond (not (not d.kept)) (1 + n) 0) (same_free h)
  same_free (SameCues.free e f h) = rw (e, f) refl

  piano_later : (a b : List Cue) (c c' d e : Cue) (m n : ℕ) → of_keys keys (get_or a m d).piano ≡ of_keys keys (get_or b n e).piano
      → of_keys keys (get_or (c ∷ a) (1 + m) d).piano ≡ of_keys keys (get_or (c' ∷ b) (1 + n) e).piano
  piano_later a b c c' d e m n h = rw (one-add m, one-add n) h

  slot_away : (x : ℕ) (c : Cue) (a : List Cue) → c.kept ≡ false → slot_at x (c ∷ a) ≡ 1 + slot_at x a
  slot_away x c a k = rw k refl

  -- the piano of the slot that keeps x, but for those counts
  same_piano : (x : ℕ) {a b : List Cue} (d e : Cue) → SameCues keys a b → slot_at x a < length a
      → of_keys keys (get_or a (slot_at x a) d).piano ≡ of_keys keys (get_or b (slot_at x b) e).piano
  same_piano x d e SameCues.no_more l = absurd (omega arith)
  same_piano x d e (SameCues.kept {c = c} {d = c'} {a = a} {b = b} k h) l =
      let stands : stands_at x c ≡ stands_at x c' = ap (stands_at x) k in
      rw stands (go (stands_at x c') (rw stands at l) (same_piano x d e h))
    where
      go : (q : Bool) → cond (not q) (1 + slot_at x a) 0 < suc (length a)
          → (slot_at x a < length a → of_keys keys (get_or a (slot_at x a) d).piano ≡ of_keys keys (get_or b (slot_at x b) e).piano)
          → of_keys keys (get_or (c ∷ a) (cond (not q) (1 + slot_at x a) 0) d).piano ≡ of_keys keys (get_or (c' ∷ b) (cond (not q) (1 + slot_at x b) 0) e).piano
      go true l ih = ap (λ (y : Cue). y.piano) k
      go false l ih = piano_later a b c c' d e (slot_at x a) (slot_at x b) (ih (omega arith))
  same_piano x d e (SameCues.free {c = c} {d = c'} {a = a} {b = b} k m h) l =
      let more = slot_away x c a k in
      rw (more, slot_away x c' b m) (piano_later a b c c' d e (slot_at x a) (slot_at x b) (same_piano x d e h (omega (arith, more, l))))

-- ---- what is asked of a session and its memory

module _ (i : Instrument) (s : Session) (work : List Float) (s' : Session) (work' : List Float) (a : Alike i s work s' work') where
  abbrev keys : ℕ
  keys = i.key_count

  pub same_refusal : record_refusal i s (length work) ≡ record_refusal i s' (length work')
  unfolding record_refusal sound_session_to
  same_refusal =
      rw (a.score, a.number, a.position, same_sound_piano keys s'.t s.piano s'.piano a.piano, same_sound keys a.cues, a.memory.cells) refl

  same_cues : kept_by s ≡ kept_by s'
  same_cues = same_kept keys a.cues

  -- the piano now and what is held for x, but for those counts
  same_now : SameState i (state_now i s work) (state_now i s' work')
  same_now =
      ap {B = State} (λ q. record { piano = q; cells = take (part_cells i) work }) a.piano
      ∙ ap {B = State} (λ l. record { piano = of_keys keys s'.piano; cells = l }) a.memory.now

  same_held : (x : ℕ) → SameState i (held_at i s work x) (held_at i s' work' x)
  unfolding held_at
  same_held x = rw (sym a.position, sym same_cues) (go (eqb x s.t) (is_in x (kept_by s)) (slot_in x s.cues))
    where
      same_slot_state : slot_at x s.cues < length s.cues → SameState i (state_cue i s work (slot_at x s.cues)) (state_cue i s' work' (slot_at x s'.cues))
      same_slot_state l =
          let d = empty_cue s.piano in
          let kept = (slot_kept x s.cues d l).0 in
          let piano = of_keys keys (cue_at s' (slot_at x s'.cues)).piano in
          ap {B = State} (λ q. record { piano = q; cells = part ((slot_at x s.cues + 1) * part_cells i) (part_cells i) work })
          (same_piano keys x d (empty_cue s'.piano) a.cues l)
          ∙ ap {B = State} (λ c. record { piano = piano; cells = c }) (a.memory.held (slot_at x s.cues) d l kept)
          ∙ ap {B = State} (λ n. record { piano = piano; cells = part ((n + 1) * part_cells i) (part_cells i) work' }) (same_slot keys x a.cues)

      go : (n b : Bool) → ltb (slot_at x s.cues) (length s.cues) ≡ b
          → SameState i (cond n (state_now i s work) (cond b (state_cue i s work (slot_at x s.cues)) (silence i)))
          (cond n (state_now i s' work') (cond b (state_cue i s' work' (slot_at x s'.cues)) (silence i)))
      go true b e = same_now
      go false false e = refl
      go false true e = same_slot_state (ltb-true (slot_at x s.cues) (length s.cues) e)

-- ---- what a call leaves

module _ (keys : ℕ) where
  set_same : {a b : List Cue} (j : ℕ) (c d : Cue) → cue_of_keys keys c ≡ cue_of_keys keys d → SameCues keys a b → SameCues keys (set a j c) (set b j d)
  set_same j c d q SameCues.no_more = SameCues.no_more
  set_same zero c d q (SameCues.kept e h) = SameCues.kept q h
  set_same (suc j) c d q (SameCues.kept e h) = SameCues.kept e (set_same j c d q h)
  set_same zero c d q (SameCues.free e f h) = SameCues.kept q h
  set_same (suc j) c d q (SameCues.free e f h) = SameCues.free e f (set_same j c d q h)

  drop_same : {a b : List Cue} (q : ℕ) → SameCues keys a b → SameCues keys (map (drop_above q) a) (map (drop_above q) b)
  drop_same q SameCues.no_more = SameCues.no_more
  drop_same q (SameCues.kept {c = c} {d = d} e h) = SameCues.kept {c = drop_above q c} {d = drop_above q d} (ap (drop_above q) e) (drop_same q h)
  drop_same q (SameCues.free {c = c} {d = d} e f h) = SameCues.free {c = drop_above q c} {d = drop_above q d} (rw e refl) (rw f refl) (drop_same q h)

module _ (w : ℕ) (cues : List Cue) (work work' left left' : List Float) (m : SameMemory w cues work work') (room : 5 * w ≤ length work) where
  room' : 5 * w ≤ length work'
  room' = omega (arith, room, m.cells)

  abbrev first : List Float
  first = take w work

  abbrev first' : List Float
  first' = take w work'

  -- both with the same cells as their new first part
  front_same : (new new' : List Float) → new ≡ new' → length new ≡ w → left ≡ new ++ drop w work → left' ≡ new' ++ drop w work' → SameMemory w cues left left'
  front_same new new' same size e h =
      let e' : left' ≡ new ++ drop w work' = h ∙ ap (λ l. l ++ drop w work') (sym same) in
      record {
        cells = front_length w new work left e size room ∙ m.cells ∙ sym (front_length w new work' left' e' size room');
        now = front_now w new _ left e size ∙ sym (front_now w new _ left' e' size);
        held = λ j d l k. front_cue w new work left e size room j ∙ m.held j d l k ∙ sym (front_cue w new work' left' e' size room' j);
      }

  -- both with their first part put into slot f, which keeps the cue c
  slot_same : (f : ℕ) (c : Cue) → f < 4 → left ≡ splice ((f + 1) * w) w (take w work) work → left' ≡ splice ((f + 1) * w) w (take w work') work'
      → SameMemory w (set cues f c) left left'
  slot_same f c low e e' =
      record {
        cells = slot_length w f first work left e size low room ∙ m.cells ∙ sym (slot_length w f first' work' left' e' size' low room');
        now = slot_now w f first work left e size low room ∙ m.now ∙ sym (slot_now w f first' work' left' e' size' low room');
        held = λ j d l k. slot_held j d l k (eqb j f) refl;
      }
    where
      size : length first ≡ w
      size = length-take-le w work (omega (arith, room))

      size' : length first' ≡ w
      size' = length-take-le w work' (omega (arith, room'))

      slot_held : (j : ℕ) (d : Cue) → j < length (set cues f c) → (get_or (set cues f c) j d).kept ≡ true → (b : Bool) → eqb j f ≡ b
          → part ((j + 1) * w) w left ≡ part ((j + 1) * w) w left'
      slot_held j d l k true q =
          rw (eqb-true j f q) (slot_new w f first work left e size low room ∙ m.now ∙ sym (slot_new w f first' work' left' e' size' low room'))
      slot_held j d l k false q =
          let away = eqb-false j f q in
          let kept = ap (λ x. x.kept) (sym (get_or-set_other cues f j c d away)) ∙ k in
          slot_other w f first work left e size low room j away ∙ m.held j d (omega (arith, l, length-set cues f c)) kept
          ∙ sym (slot_other w f first' work' left' e' size' low room' j away)

-- fewer cues are kept
fewer_same : (w q : ℕ) (cues : List Cue) (work work' : List Float) → SameMemory w cues work work' → SameMemory w (map (drop_above q) cues) work work'
fewer_same w q cues work work' m = record { cells = m.cells; now = m.now; held = held }
  where
    held : (j : ℕ) (d : Cue) → j < length (map (drop_above q) cues) → (get_or (map (drop_above q) cues) j d).kept ≡ true
        → part ((j + 1) * w) w work ≡ part ((j + 1) * w) w work'
    held j d l k =
        let c = get_any (map (drop_above q) cues) j d (drop_above q d) l ∙ get_or-map (drop_above q) cues j d in
        let b = and_true (get_or cues j d).kept (leb (get_or cues j d).position q) (ap (λ x. x.kept) (sym c) ∙ k) in
        m.held j d (omega (arith, l, length-map cues (drop_above q))) b.0

module _ (i : Instrument) (s : Session) (work : List Float) (s' : Session) (work' : List Float) (a : Alike i s work s' work') where
  abbrev W : ℕ
  W = part_cells i

  -- refused, by the same number
  refused : (n n' : ℕ) (r r' : Outcome) (left left' out trace out' trace' : List Float) → n ≡ n'
      → (r ≡ refused_with s n) × (left ≡ work) → (r' ≡ refused_with s' n') × (left' ≡ work') → SameOutcome i r left out trace r' left' out' trace'
  refused n n' r r' left left' out trace out' trace' e k k' =
      record { answer = rw (k.0, k'.0, e) refl; reply = rw (k.0, k'.0, e) refl; after = rw (k.0, k.1, k'.0, k'.1) a }

  -- ---- play, with outputs and traces as long as each other
  module _ (scratch : ℕ) (out trace out₀ trace₀ : List Float) (r r' : Outcome) (left left' out₁ trace₁ out₂ trace₂ : List Float)
      (outs : length out ≡ length out₀) (traces : length trace ≡ length trace₀) (h : PlayMeets i s work scratch out trace r left out₁ trace₁)
      (h' : PlayMeets i s' work' scratch out₀ trace₀ r' left' out₂ trace₂) where
    module _ (d : Plays i s work out trace r left out₁ trace₁) (d' : Plays i s' work' out₀ trace₀ r' left' out₂ trace₂) (p : Passed i s (length work)) where
      abbrev ran : State
      ran = run i (score_of s) s.t (length out) (state_now i s work)

      abbrev ran' : State
      ran' = run i (score_of s') s'.t (length out₀) (state_now i s' work')

      -- the run from either, its contacts, its forces and its samples
      same_ran : SameState i ran ran'
      same_ran = rw (sym a.score, sym a.position, sym outs) (same_run i (score_of s) s.t _ _ (same_now i s work s' work' a) (length out))

      same_count : contacts_of i.key_count ran.piano ≡ contacts_of i.key_count ran'.piano
      same_count = same_contacts i.key_count ran.piano ran'.piano (ap (λ (x : State). x.piano) same_ran)

      abbrev pushed : List Float
      pushed = forces i (score_of s) s.t (length out) (state_now i s work)

      same_pushed : forces i (score_of s') s'.t (length out₀) (state_now i s' work') ≡ pushed
      same_pushed = rw (sym a.score, sym a.position, sym outs) (sym (same_forces i (score_of s) s.t _ _ (same_now i s work s' work' a) (length out)))

      same_sounded : out₁ ≡ out₂
      same_sounded =
          rw (d.sound, d'.sound, sym a.score, sym a.position, sym outs) (same_samples i (score_of s) s.t _ _ (same_now i s work s' work' a) (length out))

      -- the first k cells of either trace
      traced : take (length pushed) trace₁ ≡ pushed
      traced = front_now (length pushed) pushed _ trace₁ d.pushes refl

      traced' : take (length pushed) trace₂ ≡ pushed
      traced' = front_now (length pushed) pushed _ trace₂ (d'.pushes ∙ ap (λ l. l ++ drop (length l) trace₀) same_pushed) refl

      play_accepted : SameOutcome i r left out₁ trace₁ r' left' out₂ trace₂
      play_accepted =
          record {
            answer = rw (d.answer, d'.answer, same_pushed, same_count) refl;
            reply = rw (d.answer, d'.answer, same_pushed, same_count, same_sounded, traced, traced') refl;
            after = rw (d.session, d'.session)
                (record {
                  position = rw (a.position, outs) refl;
                  number = a.number;
                  score = a.score;
                  cues = a.cues;
                  piano = ap (λ (x : State). x.piano) same_ran;
                  memory = front_same W s.cues work work' left left' a.memory p.room ran.cells ran'.cells (ap (λ (x : State). x.cells) same_ran)
                      (run_cells i p.sound (score_of s) s.t (length out) (state_now i s work)
                      (length-take-le W work (omega (arith, p.room)))) d.memory d'.memory;
                  long = a.long;
                  long' = a.long';
                  four = a.four;
                });
          }

    pub same_play : SameOutcome i r left out₁ trace₁ r' left' out₂ trace₂
    same_play =
        meets_both _ _ h h' (rw (same_refusal i s work s' work' a, a.position, outs, traces) refl)
        (λ e k k'. refused _ _ r r' left left' out₁ trace₁ out₂ trace₂ e (k.0, k.1) (k'.0, k'.1))
        (λ z d d'. play_accepted d d' (passed_play i s (length work) scratch (length out) (length trace) z).records)

  -- ---- cue
  module _ (out trace out₀ trace₀ : List Float) (r r' : Outcome) (left left' : List Float) (h : CueMeets i s work r left)
      (h' : CueMeets i s' work' r' left') where
    cue_accepted : (b : Bool) → is_in s.t (kept_by s) ≡ b → Cues i s work r left → Cues i s' work' r' left' → CuePassed i s (length work)
        → SameOutcome i r left out trace r' left' out₀ trace₀
    cue_accepted true e d d' p =
        let k = d.again e in
        let k' = d'.again (rw (sym a.position, sym (same_cues i s work s' work' a)) e) in
        record { answer = d.answer ∙ sym d'.answer; reply = rw (d.answer, d'.answer) refl; after = rw (k.0, k.1, k'.0, k'.1) a }
    cue_accepted false e d d' p =
        let k = d.adds e in
        let k' = d'.adds (rw (sym a.position, sym (same_cues i s work s' work' a)) e) in
        let slot = free_slot s.cues in
        let new : Cue = record { kept = true; position = s.t; piano = s.piano } in
        let new' : Cue = record { kept = true; position = s.t; piano = s'.piano } in
        let same : cue_of_keys i.key_count new ≡ cue_of_keys i.key_count new' = ap {B = Cue} (λ q. record { kept = true; position = s.t; piano = q }) a.piano in
        let same_place = sym (same_free i.key_count a.cues) in
        record {
          answer = d.answer ∙ sym d'.answer;
          reply = rw (d.answer, d'.answer) refl;
          after = rw (k.0, k'.0)
              (record {
                position = a.position;
                number = a.number;
                score = a.score;
                cues = rw (same_place, sym a.position) (set_same i.key_count slot new new' same a.cues);
                piano = a.piano;
                memory = slot_same W s.cues work work' left left' a.memory p.records.room slot new (free_slot_there s.t s.cues a.four e p.free) k.1
                    (rw same_place at k'.1);
                long = a.long;
                long' = a.long';
                four = length-set s.cues slot new ∙ a.four;
              });
        }

    pub same_cue : SameOutcome i r left out trace r' left' out₀ trace₀
    same_cue =
        meets_both _ _ h h' (rw (same_refusal i s work s' work' a, a.position, same_cues i s work s' work' a) refl)
        (λ e k k'. refused _ _ r r' left left' out trace out₀ trace₀ e k k')
        (λ z d d'. cue_accepted (is_in s.t (kept_by s)) refl d d' (passed_cue i s (length work) z))

  -- ---- go
  module _ (scratch q : ℕ) (out trace out₀ trace₀ : List Float) (r r' : Outcome) (left left' : List Float)
      (h : GoMeets i s work scratch q r left) (h' : GoMeets i s' work' scratch q r' left') where
    abbrev start : ℕ
    start = start_of s.t (kept_by s) q

    same_start : start_of s'.t (kept_by s') q ≡ start
    same_start = rw (a.position, same_cues i s work s' work' a) refl

    go_accepted : Goes i s work q start r left → Goes i s' work' q (start_of s'.t (kept_by s') q) r' left' → Passed i s (length work)
        → SameOutcome i r left out trace r' left' out₀ trace₀
    go_accepted d d' p =
        let ran = run i (score_of s) start (q - start) (held_at i s work start) in
        let start' = start_of s'.t (kept_by s') q in
        let ran' = run i (score_of s') start' (q - start') (held_at i s' work' start') in
        let same_ran : SameState i ran ran' =
        rw (same_start, sym a.score) (same_run i (score_of s) start _ _ (same_held i s work s' work' a start) (q - start)) in
        record {
          answer = rw (d.answer, d'.answer, same_start) refl;
          reply = rw (d.answer, d'.answer, same_start) refl;
          after = rw (d.session, d'.session)
              (record {
                position = refl;
                number = a.number;
                score = a.score;
                cues = a.cues;
                piano = ap (λ (x : State). x.piano) same_ran;
                memory = front_same W s.cues work work' left left' a.memory p.room ran.cells ran'.cells (ap (λ (x : State). x.cells) same_ran)
                    (run_cells i p.sound (score_of s) start (q - start) (held_at i s work start)
                    (held_length i s work start a.four p.sound p.room)) d.memory d'.memory;
                long = a.long;
                long' = a.long';
                four = a.four;
              });
        }

    pub same_go : SameOutcome i r left out trace r' left' out₀ trace₀
    same_go =
        meets_both _ _ h h' (rw (same_refusal i s work s' work' a, same_start) refl)
        (λ e k k'. refused _ _ r r' left left' out trace out₀ trace₀ e k k')
        (λ z d d'. go_accepted d d' (passed_go i s (length work) scratch q z).records)

  -- ---- insert and remove: an edit at q that leaves the same score in 64 places
  module _ (q number number' : ℕ) (events events' : List TimedEvent) (out trace out₀ trace₀ : List Float) (r r' : Outcome) (left left' : List Float) where
    abbrev t' : ℕ
    t' = settled s.t (kept_by s) q

    same_t : settled s'.t (kept_by s') q ≡ t'
    same_t = rw (a.position, same_cues i s work s' work' a) refl

    edit_accepted : Edits i s work q number events r left → Edits i s' work' q number' events' r' left' → Passed i s (length work)
        → number ≡ number' → take number events ≡ take number' events' → length events ≡ 64 → length events' ≡ 64
        → SameOutcome i r left out trace r' left' out₀ trace₀
    edit_accepted d d' p e f l l' =
        let held = held_at i s work t' in
        let held' = held_at i s' work' (settled s'.t (kept_by s') q) in
        let same : SameState i held held' = rw same_t (same_held i s work s' work' a t') in
        record {
          answer = rw (d.answer, d'.answer, same_t, same_cues i s work s' work' a) refl;
          reply = rw (d.answer, d'.answer, same_t, same_cues i s work s' work' a) refl;
          after = rw (d.session, d'.session)
              (record {
                position = sym same_t;
                number = e;
                score = f;
                cues = drop_same i.key_count q a.cues;
                piano = ap (λ (x : State). x.piano) same;
                memory = front_same W (map (drop_above q) s.cues) work work' left left'
                    (fewer_same W q s.cues work work' a.memory) p.room held.cells held'.cells
                    (ap (λ (x : State). x.cells) same)
                    (held_length i s work t' a.four p.sound p.room) d.memory d'.memory;
                long = l;
                long' = l';
                four = length-map s.cues (drop_above q) ∙ a.four;
              });
        }

  module _ (e : TimedEvent) (out trace out₀ trace₀ : List Float) (r r' : Outcome) (left left' : List Float)
      (h : InsertMeets i s work e r left) (h' : InsertMeets i s' work' e r' left') where
    pub same_insert : SameOutcome i r left out trace r' left' out₀ trace₀
    same_insert =
        meets_both _ _ h h' (rw (same_refusal i s work s' work' a, a.number) refl)
        (λ e k k'. refused _ _ r r' left left' out trace out₀ trace₀ e k k')
        (λ z d d'.
        let p = passed_insert i s (length work) e z in
        let few = p.place in
        let few' : s'.count < 64 = omega (arith, few, a.number) in
        edit_accepted e.position _ _ _ _ out trace out₀ trace₀ r r' left left' d d' p.records (ap (λ n. n + 1) a.number)
        (placed_score s e few a.long ∙ ap (λ l. placed l e) a.score ∙ sym (placed_score s' e few' a.long'))
        (placed_long s e few a.long) (placed_long s' e few' a.long'))

  module _ (index : ℕ) (out trace out₀ trace₀ : List Float) (r r' : Outcome) (left left' : List Float)
      (h : RemoveMeets i s work index r left) (h' : RemoveMeets i s' work' index r' left') where
    pub same_remove : SameOutcome i r left out trace r' left' out₀ trace₀
    same_remove =
        meets_both _ _ h h' (rw (same_refusal i s work s' work' a, a.number) refl)
        (λ e k k'. refused _ _ r r' left left' out trace out₀ trace₀ e k k')
        (λ z d d'.
        let passed = passed_remove i s (length work) index z in
        let p = passed.records in
        let there = passed.there in
        let there' : index < s'.count = omega (arith, there, a.number) in
        let few' : s'.count ≤ 64 = omega (arith, p.few, a.number) in
        let at_q : (get_or (score_of s) index no_event).position ≡ (get_or (score_of s') index no_event).position
        = ap (λ l. (get_or l index no_event).position) a.score in
        edit_accepted (get_or (score_of s') index no_event).position _ _ _ _ out trace out₀ trace₀ r r' left left' (rw at_q at d) d' p
        (ap (λ n. n - 1) a.number)
        (removed_score s index there p.few a.long ∙ ap (λ l. removed l index) a.score ∙ sym (removed_score s' index there' few' a.long'))
        (removed_long s index there p.few a.long) (removed_long s' index there' few' a.long'))

  -- ---- any call
  pub same_call : (c : Call) (out trace out₀ trace₀ : List Float) (r r' : Outcome) (left left' out₁ trace₁ out₂ trace₂ : List Float)
      → CallMeets i s work c out trace r left out₁ trace₁ → CallMeets i s' work' c out₀ trace₀ r' left' out₂ trace₂
      → SameOutcome i r left out₁ trace₁ r' left' out₂ trace₂
  same_call (Call.play scratch m n) out trace out₀ trace₀ r r' left left' out₁ trace₁ out₂ trace₂ h h' =
      same_play scratch out trace out₀ trace₀ r r' left left' out₁ trace₁ out₂ trace₂ (h.0 ∙ sym h'.0) (h.1 ∙ sym h'.1) h.2 h'.2
  same_call Call.cue out trace out₀ trace₀ r r' left left' out₁ trace₁ out₂ trace₂ h h' = same_cue out₁ trace₁ out₂ trace₂ r r' left left' h h'
  same_call (Call.go scratch q) out trace out₀ trace₀ r r' left left' out₁ trace₁ out₂ trace₂ h h' = same_go scratch q out₁ trace₁ out₂ trace₂ r r' left left' h h'
  same_call (Call.insert e) out trace out₀ trace₀ r r' left left' out₁ trace₁ out₂ trace₂ h h' = same_insert e out₁ trace₁ out₂ trace₂ r r' left left' h h'
  same_call (Call.remove index) out trace out₀ trace₀ r r' left left' out₁ trace₁ out₂ trace₂ h h' = same_remove index out₁ trace₁ out₂ trace₂ r r' left left' h h'

  -- ---- energies
  pub same_energies : (r r' : Result Energies Refusal) → EnergiesMeet i s work r → EnergiesMeet i s' work' r' → r ≡ r'
  same_energies r r' h h' = first_part_decides i s' work work' r r' a.memory.cells a.memory.now moved h'
    where
      number : record_refusal i s (length work) ≡ record_refusal i s' (length work)
      number = same_refusal i s work s' work' a ∙ ap (record_refusal i s') (sym a.memory.cells)

      moved : EnergiesMeet i s' work r
      moved = record { refuses = λ n. h.refuses (λ z. n (sym number ∙ z)) ∙ ap no_energies_for number; accepts = λ z. h.accepts (number ∙ z) }

-- ---- the list as a whole

-- one call more ahead of such lists
same_next : (i : Instrument) (r r' : Outcome) (left left' out trace out' trace' : List Float) {s₁ s₂ : Session} {work₁ work₂ : List Float} {rs rs' : List Reply}
    → SameOutcome i r left out trace r' left' out' trace' → (Alike i r.session left r'.session left' → (rs ≡ rs') × Alike i s₁ work₁ s₂ work₂)
    → (reply_of r.answer out trace ∷ rs ≡ reply_of r'.answer out' trace' ∷ rs') × Alike i s₁ work₁ s₂ work₂
same_next i r r' left left' out trace out' trace' t rest =
    let u = rest t.after in
    (cc (t.reply, u.0), u.1)

-- the same calls from sessions and memories that agree: the same replies, and they agree afterwards
pub same_runs : (i : Instrument) {s s' s₁ s₂ : Session} {work work' work₁ work₂ : List Float} {cs : List Call} {rs rs' : List Reply}
    → Runs i s work cs rs s₁ work₁ → Runs i s' work' cs rs' s₂ work₂ → Alike i s work s' work' → (rs ≡ rs') × Alike i s₁ work₁ s₂ work₂
same_runs i Runs.done Runs.done a = (refl, a)
same_runs i (Runs.next {s = s} {work = work} c out trace r left out₁ trace₁ h rest)
    (Runs.next {s = s'} {work = work'} _ out₀ trace₀ r' left' out₂ trace₂ h' rest') a =
    same_next i r r' left left' out₁ trace₁ out₂ trace₂ (same_call i s work s' work' a c out trace out₀ trace₀ r r' left left' out₁ trace₁ out₂ trace₂ h h')
    (λ after. same_runs i rest rest' after)
