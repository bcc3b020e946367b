-- One call: the program that follows the machine follows it after the call too, and gives the machine's reply. Assumes nothing.
use Rattle.std.specs.Prelude.{◌≡◌, Bool, true, false, cond, not, ◌⊎◌, List, ◌∷◌, ◌++◌, map, ℕ, zero, suc, ◌+◌, ◌-◌, ◌*◌, ◌<◌, ◌≤◌, eqb, leb, ltb}
use Rattle.std.specs.Prelude.{Float, take, get_or, set}
use Rattle.std.proofs.Math.Path.{refl, sym, ap}
use Rattle.std.proofs.Common.{◌∙◌, inl, inr, ⊎_elim, arith, add-sub_of_le, eqb-true, leb-true, length-set, length-take-le, get_or-set_same, get_or-set_other}
use Rattle.std.proofs.lemmas.Bool.{eqb-false}
use Rattle.std.proofs.Math.ListN.{length, drop, get_or-map}
use Rattle.std.proofs.lemmas.List.{length-map}
use Rattle.std.proofs.Math.Seq.{drop_at}
use Rattle.refusal.specs.Refusal.{number_of, numbered}
use Rattle.cells.specs.Splice.{part}
use Rattle.instrument.specs.declared.Instrument.{Instrument}
use Rattle.instrument.specs.Work.{part_cells}
use Rattle.instrument.specs.ValidLaws.{valid_counts}
use Rattle.score.specs.declared.TimedEvent.{TimedEvent}
use Rattle.score.specs.Events.{State}
use Rattle.score.specs.Score.{no_event, events_at}
use Rattle.score.specs.Contacts.{contacts_of}
use Rattle.render.specs.Render.{run, samples, forces, silence, render_state, render_samples, render_forces, render_contacts}
use Rattle.render.specs.Laws.{samples_length, render_then, render_local, render_samples_lem, render_forces_lem, render_sum}
use Rattle.positions.specs.Positions.{end, others, count, is_in, up_to, greatest}
use Rattle.positions.specs.Laws.{and_true, same_cons, same_up_to, in_front, in_cons, in_same, in_up_to, greatest_same, greatest_member, greatest_up_to}
use Rattle.score_edits.specs.Edits.{placed, removed, sound_velocity}
use Rattle.score_edits.specs.Laws.{placed_before, removed_before}
use Rattle.machine.specs.Refusals.{refuse_if, or_else, scratch_cells, play_refusal, cue_refusal, go_refusal, insert_refusal, remove_refusal}
use Rattle.machine.specs.Machine.{Machine, Call, Reply, start_of, settled, edit, unless, does, does_to, block_samples, block_forces}
use Rattle.machine.specs.Laws.{SoundMachine, sound_does, settled_low, insert_passed, remove_passed}
use Rattle.session_cues.specs.declared.Cue.{Cue}
use Rattle.session_cues.specs.Cues.{free_slot, drop_above}
use Rattle.session_cues.specs.Laws.{free_slot_free, kept_set, kept_drop}
use Rattle.session_record.specs.declared.Session.{Session}
use Rattle.session_record.specs.Record.{score_of, play_number, cue_number, go_number, insert_number, remove_number}
use Rattle.session_record.specs.Laws.{passed_cue}
use Rattle.session.specs.declared.Outcome.{Outcome}
use Rattle.session.specs.Calls.{kept_by, empty_cue, cue_at, state_now, held_at, refused_with, Plays, PlayMeets, Cues, CueMeets, Goes, GoMeets, Edits}
use Rattle.session.specs.Calls.{InsertMeets, RemoveMeets}
use Rattle.session.specs.Laws.{get_any, rendered_length}
use Rattle.session_theorem.specs.Runs.{reply_of, CallMeets, Follows}
use Rattle.session_theorem.specs.Arrays.{placed_score, placed_long, removed_score, removed_long, free_slot_there}
use Rattle.session_theorem.specs.Memory.{front_now, front_cue, front_length, slot_now, slot_new, slot_other, slot_length}
use Rattle.session_theorem.specs.Stands.{Stands, standing_passes, held_render, score_length}

-- a machine's number that is not 0 is that of a refusal, so that the answer names it
abbrev Named : ℕ → Type 0
Named m = (m ≡ 0 → ⊥) → number_of (numbered m) ≡ m

named_test : (b : Bool) (n : ℕ) → number_of (numbered n) ≡ n → Named (refuse_if b n)
named_test true n h z = h
named_test false n h z = absurd (z refl)

named_else : (a b : ℕ) → Named a → Named b → Named (or_else a b)
named_else zero b h g = g
named_else (suc a) b h g = h

named_three : (a b c : Bool) (x y z : ℕ) → number_of (numbered x) ≡ x → number_of (numbered y) ≡ y → number_of (numbered z) ≡ z
    → Named (or_else (refuse_if a x) (or_else (refuse_if b y) (refuse_if c z)))
named_three a b c x y z hx hy hz =
    named_else (refuse_if a x) _ (named_test a x hx) (named_else (refuse_if b y) _ (named_test b y hy) (named_test c z hz))

-- a call by its refusal: `n` is the contract's, `m` the machine's
by_refusal : (i : Instrument) (s : Session) (work : List Float) (p : Machine) (n m : ℕ) → Named m
    → (done : Machine × Reply) (r : Outcome) (work' out trace : List Float) → Stands i s work p → n ≡ m
    → ((n ≡ 0 → ⊥) → (r ≡ refused_with s n) × (work' ≡ work)) → (n ≡ 0 → Stands i r.session work' done.0 × (reply_of r.answer out trace ≡ done.1))
    → Stands i r.session work' (unless m p done).0 × (reply_of r.answer out trace ≡ (unless m p done).1)
by_refusal i s work p n zero named done r work' out trace g e refuses accepts = accepts e
by_refusal i s work p n (suc m) named done r work' out trace g e refuses accepts =
    let h = refuses (λ z. omega arith) in
    let same : number_of (numbered n) ≡ suc m = ap (λ k. number_of (numbered k)) e ∙ named (λ z. omega arith) in
    (rw (h.0, h.1) g, ap (λ q. reply_of q.answer out trace) h.0 ∙ ap Reply.refused same)

-- the contract's refusal is the machine's, since 7 and 8 do not come
refusal_same : (a b c : ℕ) → a ≡ 0 → b ≡ c → or_else a b ≡ c
refusal_same a b c e f = rw e f

-- the greatest of 0 and the members not above q is 0 or a member
pub greatest_held : (q : ℕ) (l : List ℕ) → (greatest (up_to q l) ≡ 0) ⊎ (is_in (greatest (up_to q l)) l ≡ true)
greatest_held q l =
    ⊎_elim (λ (z : greatest (up_to q l) ≡ 0). inl z)
    (λ (z : is_in (greatest (up_to q l)) (up_to q l) ≡ true). inr (sym (in_up_to q (greatest (up_to q l)) l (greatest_up_to q l)) ∙ z))
    (greatest_member (up_to q l))

-- a block is the run from the render's state at its start
module _ (i : Instrument) (score : List TimedEvent) (t m : ℕ) where
  pub block_samples_lem : block_samples i score t m ≡ samples i score t m (render_state i score t)
  unfolding block_samples
  block_samples_lem =
      ap (drop t) (render_samples_lem i score t m)
      ∙ drop_at (render_samples i score t) (samples i score t m (render_state i score t)) t (samples_length i score 0 t (silence i))

  pub block_forces_lem : block_forces i score t m ≡ forces i score t m (render_state i score t)
  unfolding block_forces
  block_forces_lem =
      ap (drop (length (render_forces i score t))) (render_forces_lem i score t m)
      ∙ drop_at (render_forces i score t) (forces i score t m (render_state i score t)) (length (render_forces i score t)) refl

-- a call that leaves the cues and their parts alone: the first part and t are new
module _ (i : Instrument) (s s' : Session) (work work' : List Float) (p p' : Machine) (g : Stands i s work p) (m : SoundMachine p') (st : State)
    (here : s' ≡ record { t = p'.t; count = s.count; events = s.events; cues = s.cues; piano = st.piano })
    (memory : work' ≡ st.cells ++ drop (part_cells i) work) (right : st ≡ render_state i p.score p'.t) (same_score : p'.score ≡ p.score)
    (same_cues : p'.cues ≡ p.cues) where
  size : length st.cells ≡ part_cells i
  size = ap (λ x. length x.cells) right ∙ rendered_length i g.instrument p.score p'.t

  moved : Stands i s' work' p'
  moved =
      record {
        follows = record {
          score = rw (here, same_score) g.follows.score;
          position = rw here refl;
          cues = rw (here, same_cues) g.follows.cues;
          now = rw (here, front_now (part_cells i) st.cells _ work' memory size, same_score) right;
          held = λ j l k.
              rw (here, front_cue (part_cells i) st.cells work work' memory size g.room j, same_score) (kept j l (rw here at k));
        };
        machine = m;
        instrument = g.instrument;
        few = rw here g.few;
        long = rw here g.long;
        four = rw here g.four;
        room = omega (arith, front_length (part_cells i) st.cells work work' memory size g.room, g.room);
      }
    where
      kept : (j : ℕ) → j < 4 → (get_or s.cues j (empty_cue st.piano)).kept ≡ true
          → record { piano = (get_or s.cues j (empty_cue st.piano)).piano; cells = part ((j + 1) * part_cells i) (part_cells i) work }
          ≡ render_state i p.score (get_or s.cues j (empty_cue st.piano)).position
      kept j l k =
          let d = get_any s.cues j (empty_cue st.piano) (empty_cue s.piano) (omega (arith, g.four)) in
          rw d (g.follows.held j l (ap (λ c. c.kept) (sym d) ∙ k))

module _ (i : Instrument) (s : Session) (work : List Float) (p : Machine) (g : Stands i s work p) where
  f : Follows i s work p
  f = g.follows

  -- ---- play
  module _ (scratch : ℕ) (out trace work' out' trace' : List Float) (r : Outcome) (h : PlayMeets i s work scratch out trace r work' out' trace') where
    abbrev m : ℕ
    m = length out

    abbrev playing : Call
    playing = Call.play scratch m (length trace)

    play_same : play_number i s (length work) scratch m (length trace) ≡ play_refusal i p.t scratch m (length trace)
    play_same = refusal_same _ _ _ (standing_passes i s work p g) (ap (λ t. play_refusal i t scratch m (length trace)) f.position)

    module _ (d : Plays i s work out trace r work' out' trace') (sound : SoundMachine (record { score = p.score; t = p.t + m; cues = p.cues })) where
      play_stands : Stands i r.session work' (record { score = p.score; t = p.t + m; cues = p.cues })
      play_stands =
          moved i s r.session work work' p (record { score = p.score; t = p.t + m; cues = p.cues }) g sound (run i (score_of s) s.t m (state_now i s work))
          (d.session ∙ rw f.position refl) d.memory (rw (f.score, f.position, f.now) (sym (render_then i p.score p.t m))) refl refl

      abbrev pushed : List Float
      pushed = forces i (score_of s) s.t m (state_now i s work)

      pushed_is : pushed ≡ block_forces i p.score p.t m
      pushed_is = rw (f.score, f.position, f.now) (sym (block_forces_lem i p.score p.t m))

      sounded_is : out' ≡ block_samples i p.score p.t m
      sounded_is = d.sound ∙ rw (f.score, f.position, f.now) (sym (block_samples_lem i p.score p.t m))

      counted_is : contacts_of i.key_count (run i (score_of s) s.t m (state_now i s work)).piano ≡ render_contacts i p.score (p.t + m)
      counted_is =
          rw (f.score, f.position, f.now, ← render_then i p.score p.t m) (render_sum i p.score (valid_counts i g.instrument).few_keys (p.t + m))

      play_reply : reply_of r.answer out' trace'
          ≡ Reply.played (length (block_forces i p.score p.t m)) (render_contacts i p.score (p.t + m)) (block_samples i p.score p.t m)
          (block_forces i p.score p.t m)
      play_reply =
          rw (d.answer, front_now (length pushed) pushed _ trace' d.pushes refl, counted_is, pushed_is, sounded_is)

    play_step : Stands i r.session work' (does i p playing).0 × (reply_of r.answer out' trace' ≡ (does i p playing).1)
    unfolding does_to
    play_step =
        by_refusal i s work p _ (play_refusal i p.t scratch m (length trace))
        (named_three (ltb scratch (scratch_cells i)) (ltb (length trace) m) (ltb end (p.t + m)) 9 10 11 refl refl refl)
        _ r work' out' trace' g play_same
        (λ n. let x = h.refuses n in (x.0, x.1))
        (λ z. let d = h.accepts z in (play_stands d (play_sound (sym play_same ∙ z)), play_reply d (play_sound (sym play_same ∙ z))))
      where
        play_sound : play_refusal i p.t scratch m (length trace) ≡ 0 → SoundMachine (record { score = p.score; t = p.t + m; cues = p.cues })
        play_sound z = rw z at (sound_does p g.machine i playing)

  -- ---- cue
  module _ (work' out trace : List Float) (r : Outcome) (h : CueMeets i s work r work') where
    cue_same : cue_number i s (length work) ≡ cue_refusal p.t p.cues
    cue_same = refusal_same _ _ _ (standing_passes i s work p g) (rw (f.position, f.cues (λ y. not (eqb p.t y))) refl)

    kept_same : is_in s.t (kept_by s) ≡ is_in p.t p.cues
    kept_same = ap (λ t. is_in t (kept_by s)) f.position ∙ in_same p.t (kept_by s) p.cues f.cues

    module _ (d : Cues i s work r work') (absent : is_in s.t (kept_by s) ≡ false) (few : others s.t (kept_by s) < 4)
        (sound : SoundMachine (record { score = p.score; t = p.t; cues = p.t ∷ p.cues })) where
      abbrev slot : ℕ
      slot = free_slot s.cues

      abbrev new : Cue
      new = record { kept = true; position = s.t; piano = s.piano }

      slot_low : slot < 4
      slot_low = free_slot_there s.t s.cues g.four absent few

      here : r.session ≡ record { t = s.t; count = s.count; events = s.events; cues = set s.cues slot new; piano = s.piano }
      here = (d.adds absent).0

      first : length (take (part_cells i) work) ≡ part_cells i
      first = length-take-le (part_cells i) work (omega (arith, g.room))

      -- slot by slot: the new one, or another
      slot_held : (j : ℕ) → j < 4 → (get_or (set s.cues slot new) j (empty_cue s.piano)).kept ≡ true
          → record { piano = (get_or (set s.cues slot new) j (empty_cue s.piano)).piano; cells = part ((j + 1) * part_cells i) (part_cells i) work' }
          ≡ render_state i p.score (get_or (set s.cues slot new) j (empty_cue s.piano)).position
      slot_held j l k = go (eqb j slot) refl
        where
          go : (b : Bool) → eqb j slot ≡ b
              → record { piano = (get_or (set s.cues slot new) j (empty_cue s.piano)).piano; cells = part ((j + 1) * part_cells i) (part_cells i) work' }
              ≡ render_state i p.score (get_or (set s.cues slot new) j (empty_cue s.piano)).position
          go true e =
              rw (
                eqb-true j slot e,
                get_or-set_same s.cues slot new (empty_cue s.piano) (omega (arith, g.four, slot_low)),
                slot_new (part_cells i) slot (take (part_cells i) work) work work' (d.adds absent).1 first slot_low g.room,
              )
              (f.now ∙ ap (render_state i p.score) (sym f.position))
          go false e =
              let away = eqb-false j slot e in
              let c = get_or-set_other s.cues slot j new (empty_cue s.piano) away in
              rw (c, slot_other (part_cells i) slot (take (part_cells i) work) work work' (d.adds absent).1 first slot_low g.room j away)
              (f.held j l (ap (λ x. x.kept) (sym c) ∙ k))

      cue_added : Stands i r.session work' (record { score = p.score; t = p.t; cues = p.t ∷ p.cues })
      cue_added =
          record {
            follows = record {
              score = rw here f.score;
              position = rw here f.position;
              cues = λ t. rw here
                  (kept_set s.cues slot new (empty_cue s.piano) (omega (arith, g.four, slot_low))
                  (free_slot_free s.cues (empty_cue s.piano) (omega (arith, g.four, slot_low))) refl t
                  ∙ ap (λ x. count t (x ∷ kept_by s)) f.position ∙ same_cons p.t (kept_by s) p.cues f.cues t);
              now = rw (here, slot_now (part_cells i) slot (take (part_cells i) work) work work' (d.adds absent).1 first slot_low g.room) f.now;
              held = λ j l k. rw here (slot_held j l (rw here at k));
            };
            machine = sound;
            instrument = g.instrument;
            few = rw here g.few;
            long = rw here g.long;
            four = rw here (length-set s.cues slot new ∙ g.four);
            room = omega (arith, slot_length (part_cells i) slot (take (part_cells i) work) work work' (d.adds absent).1 first slot_low g.room, g.room);
          }

    cue_stands : (b : Bool) → is_in p.t p.cues ≡ b → Cues i s work r work' → others s.t (kept_by s) < 4
        → SoundMachine (record { score = p.score; t = p.t; cues = cond b p.cues (p.t ∷ p.cues) })
        → Stands i r.session work' (record { score = p.score; t = p.t; cues = cond b p.cues (p.t ∷ p.cues) })
    cue_stands true e d few sound = let x = d.again (kept_same ∙ e) in rw (x.0, x.1) g
    cue_stands false e d few sound = cue_added d (kept_same ∙ e) few sound

    cue_step : Stands i r.session work' (does i p Call.cue).0 × (reply_of r.answer out trace ≡ (does i p Call.cue).1)
    unfolding does_to
    cue_step =
        by_refusal i s work p _ (cue_refusal p.t p.cues) (named_test (leb 4 (others p.t p.cues)) 15 refl) _ r work' out trace g cue_same h.refuses
        (λ z.
        let d = h.accepts z in
        let m = sym cue_same ∙ z in (
          cue_stands (is_in p.t p.cues) refl d (passed_cue i s (length work) z).free (rw m at (sound_does p g.machine i Call.cue)),
          ap (λ a. reply_of a out trace) d.answer,
        ))

  -- ---- go
  module _ (scratch q : ℕ) (work' out trace : List Float) (r : Outcome) (h : GoMeets i s work scratch q r work') where
    abbrev start : ℕ
    start = start_of p.t p.cues q

    start_same : start_of s.t (kept_by s) q ≡ start
    start_same =
        ap (λ t. start_of t (kept_by s) q) f.position
        ∙ greatest_same (up_to q (p.t ∷ kept_by s)) (up_to q (p.t ∷ p.cues))
        (same_up_to q (p.t ∷ kept_by s) (p.t ∷ p.cues) (same_cons p.t (kept_by s) p.cues f.cues))

    go_same : go_number i s (length work) scratch q ≡ go_refusal i scratch q start
    go_same = refusal_same _ _ _ (standing_passes i s work p g) (ap (go_refusal i scratch q) start_same)

    module _ (d : Goes i s work q (start_of s.t (kept_by s) q) r work') (sound : SoundMachine (record { score = p.score; t = q; cues = p.cues })) where
      go_stands : Stands i r.session work' (record { score = p.score; t = q; cues = p.cues })
      go_stands =
          let x = start_of s.t (kept_by s) q in
          let low : x + (q - x) ≡ q = add-sub_of_le (greatest_up_to q (s.t ∷ kept_by s)) in
          moved i s r.session work work' p (record { score = p.score; t = q; cues = p.cues }) g sound
          (run i (score_of s) x (q - x) (held_at i s work x)) d.session d.memory
          (rw (f.score, held_render i s work p g x (greatest_held q (s.t ∷ kept_by s)))
          (sym (render_then i p.score x (q - x)) ∙ ap (render_state i p.score) low)) refl refl

    go_step : Stands i r.session work' (does i p (Call.go scratch q)).0 × (reply_of r.answer out trace ≡ (does i p (Call.go scratch q)).1)
    unfolding does_to
    go_step =
        by_refusal i s work p _ (go_refusal i scratch q start)
        (named_three (ltb scratch (scratch_cells i)) (ltb end q) (ltb 1000000 (q - start)) 9 11 16 refl refl refl)
        _ r work' out trace g go_same h.refuses
        (λ z.
        let d = h.accepts z in (
          go_stands d (rw (sym go_same ∙ z) at (sound_does p g.machine i (Call.go scratch q))),
          ap (λ a. reply_of a out trace) d.answer ∙ ap (λ x. Reply.went (q - x)) start_same,
        ))

  -- ---- insert and remove: an edit at q that leaves the events before q alone
  module _ (q number : ℕ) (left score' : List TimedEvent) (work' : List Float) (r : Outcome) (d : Edits i s work q number left r work')
      (new_score : take number left ≡ score') (few : number ≤ 64) (long : length left ≡ 64) (alike : (k : ℕ) → k < q → events_at p.score k ≡ events_at score' k)
      (sound : SoundMachine (edit p score' q).0) where
    t_same : settled s.t (kept_by s) q ≡ settled p.t p.cues q
    t_same = rw (f.position, greatest_same (up_to q (kept_by s)) (up_to q p.cues) (same_up_to q (kept_by s) p.cues f.cues)) refl

    -- t is where it was, 0 or a kept cue
    t_held : (settled s.t (kept_by s) q ≡ 0) ⊎ (is_in (settled s.t (kept_by s) q) (s.t ∷ kept_by s) ≡ true)
    t_held = go (ltb q s.t) refl
      where
        go : (b : Bool) → ltb q s.t ≡ b
            → (cond b (greatest (up_to q (kept_by s))) s.t ≡ 0) ⊎ (is_in (cond b (greatest (up_to q (kept_by s))) s.t) (s.t ∷ kept_by s) ≡ true)
        go true e =
            ⊎_elim (λ (z : greatest (up_to q (kept_by s)) ≡ 0). inl z)
            (λ (z : is_in (greatest (up_to q (kept_by s))) (kept_by s) ≡ true). inr (in_cons (greatest (up_to q (kept_by s))) s.t (kept_by s) z))
            (greatest_held q (kept_by s))
        go false e = inr (in_front s.t (kept_by s))

    render_alike : (x : ℕ) → x ≤ q → render_state i p.score x ≡ render_state i score' x
    render_alike x l = render_local i p.score score' x (λ k m. alike k (omega arith))

    abbrev t' : ℕ
    t' = settled s.t (kept_by s) q

    held_is : held_at i s work t' ≡ render_state i score' t'
    held_is = held_render i s work p g t' t_held ∙ render_alike t' (settled_low s.t (kept_by s) q)

    size' : length (held_at i s work t').cells ≡ part_cells i
    size' = ap (λ x. length x.cells) held_is ∙ rendered_length i g.instrument score' t'

    -- a cue that stays was kept, not above q
    cue_stays : (c : Cue) → (drop_above q c).kept ≡ true → (c.kept ≡ true) × (c.position ≤ q)
    cue_stays c e = let b = and_true c.kept (leb c.position q) e in (b.0, leb-true c.position q b.1)

    edit_stands : Stands i r.session work' (edit p score' q).0
    edit_stands =
        record {
          follows = record {
            score = rw d.session new_score;
            position = rw d.session t_same;
            cues = λ t. rw d.session (ap (count t) (kept_drop q s.cues) ∙ same_up_to q (kept_by s) p.cues f.cues t);
            now = rw (d.session, front_now (part_cells i) (held_at i s work t').cells _ work' d.memory size') (held_is ∙ ap (render_state i score') t_same);
            held = λ j l k.
                rw (d.session, front_cue (part_cells i) (held_at i s work t').cells work work' d.memory size' g.room j) (slot_held j l (rw d.session at k));
          };
          machine = sound;
          instrument = g.instrument;
          few = rw d.session few;
          long = rw d.session long;
          four = rw d.session (length-map s.cues (drop_above q) ∙ g.four);
          room = omega (arith, front_length (part_cells i) (held_at i s work t').cells work work' d.memory size' g.room, g.room);
        }
      where
        slot_held : (j : ℕ) → j < 4 → (get_or (map (drop_above q) s.cues) j (empty_cue (held_at i s work t').piano)).kept ≡ true
            → record {
              piano = (get_or (map (drop_above q) s.cues) j (empty_cue (held_at i s work t').piano)).piano;
              cells = part ((j + 1) * part_cells i) (part_cells i) work;
            }
            ≡ render_state i score' (get_or (map (drop_above q) s.cues) j (empty_cue (held_at i s work t').piano)).position
        slot_held j l k =
            let there : j < length (map (drop_above q) s.cues) = omega (arith, length-map s.cues (drop_above q), g.four) in
            let old = empty_cue s.piano in
            let new = empty_cue (held_at i s work t').piano in
            let c = get_any (map (drop_above q) s.cues) j new (drop_above q old) there ∙ get_or-map (drop_above q) s.cues j old in
            let b = cue_stays (cue_at s j) (ap (λ x. x.kept) (sym c) ∙ k) in
            rw c (f.held j l b.0 ∙ render_alike (cue_at s j).position b.1)

    edit_reply : (out trace : List Float) → reply_of r.answer out trace ≡ (edit p score' q).1
    edit_reply out trace = ap (λ a. reply_of a out trace) d.answer ∙ rw (t_same, f.cues (ltb q)) refl

  module _ (e : TimedEvent) (work' out trace : List Float) (r : Outcome) (h : InsertMeets i s work e r work') where
    insert_same : insert_number i s (length work) e ≡ insert_refusal (length p.score) e
    insert_same = refusal_same _ _ _ (standing_passes i s work p g) (rw (score_length i s work p g) refl)

    insert_step : Stands i r.session work' (does i p (Call.insert e)).0 × (reply_of r.answer out trace ≡ (does i p (Call.insert e)).1)
    unfolding does_to
    insert_step =
        by_refusal i s work p _ (insert_refusal (length p.score) e)
        (named_three (ltb end e.position) (leb 64 (length p.score)) (not (sound_velocity e.event)) 11 12 13 refl refl refl)
        (edit p (placed p.score e) e.position) r work' out trace g insert_same h.refuses
        (λ z.
        let m = sym insert_same ∙ z in
        let d = h.accepts z in
        let few : s.count < 64 = omega (arith, (insert_passed (length p.score) e m).1, score_length i s work p g) in
        let new = placed_score s e few g.long ∙ ap (λ l. placed l e) f.score in
        let sound : SoundMachine (edit p (placed p.score e) e.position).0 = rw m at (sound_does p g.machine i (Call.insert e)) in
        let alike : (k : ℕ) → k < e.position → events_at p.score k ≡ events_at (placed p.score e) k = λ k l. placed_before p.score e k l in (
          edit_stands e.position (s.count + 1) _ (placed p.score e) work' r d new (omega (arith, few)) (placed_long s e few g.long) alike sound,
          edit_reply e.position (s.count + 1) _ (placed p.score e) work' r d new (omega (arith, few)) (placed_long s e few g.long) alike sound out trace,
        ))

  module _ (index : ℕ) (work' out trace : List Float) (r : Outcome) (h : RemoveMeets i s work index r work') where
    remove_same : remove_number i s (length work) index ≡ remove_refusal (length p.score) index
    remove_same = refusal_same _ _ _ (standing_passes i s work p g) (rw (score_length i s work p g) refl)

    -- the position of the event that goes
    abbrev gone : ℕ
    gone = (get_or p.score index no_event).position

    remove_step : Stands i r.session work' (does i p (Call.remove index)).0 × (reply_of r.answer out trace ≡ (does i p (Call.remove index)).1)
    unfolding does_to
    remove_step =
        by_refusal i s work p _ (remove_refusal (length p.score) index)
        (named_test (leb (length p.score) index) 14 refl) (edit p (removed p.score index) gone) r work' out trace g remove_same h.refuses
        (λ z.
        let m = sym remove_same ∙ z in
        let at_gone : (get_or (score_of s) index no_event).position ≡ gone = ap (λ l. (get_or l index no_event).position) f.score in
        let d : Edits i s work gone (s.count - 1) (removed (score_of s) index ++ drop (s.count - 1) s.events) r work' = rw at_gone at (h.accepts z) in
        let low : index < length p.score = remove_passed (length p.score) index m in
        let there : index < s.count = omega (arith, low, score_length i s work p g) in
        let few : s.count - 1 ≤ 64 = omega (arith, g.few) in
        let new = removed_score s index there g.few g.long ∙ ap (λ l. removed l index) f.score in
        let long = removed_long s index there g.few g.long in
        let sound : SoundMachine (edit p (removed p.score index) gone).0 = rw m at (sound_does p g.machine i (Call.remove index)) in
        let alike : (k : ℕ) → k < gone → events_at p.score k ≡ events_at (removed p.score index) k = λ k l. removed_before p.score index no_event k low l in (
          edit_stands gone (s.count - 1) _ (removed p.score index) work' r d new few long alike sound,
          edit_reply gone (s.count - 1) _ (removed p.score index) work' r d new few long alike sound out trace,
        ))

  -- ---- any call
  pub call_step : (c : Call) (out trace : List Float) (r : Outcome) (work' out' trace' : List Float) → CallMeets i s work c out trace r work' out' trace'
      → Stands i r.session work' (does i p c).0 × (reply_of r.answer out' trace' ≡ (does i p c).1)
  call_step (Call.play scratch m n) out trace r work' out' trace' h = rw (h.0, h.1) at (play_step scratch out trace work' out' trace' r h.2)
  call_step Call.cue out trace r work' out' trace' h = cue_step work' out' trace' r h
  call_step (Call.go scratch q) out trace r work' out' trace' h = go_step scratch q work' out' trace' r h
  call_step (Call.insert e) out trace r work' out' trace' h = insert_step e work' out' trace' r h
  call_step (Call.remove index) out trace r work' out' trace' h = remove_step index work' out' trace' r h
