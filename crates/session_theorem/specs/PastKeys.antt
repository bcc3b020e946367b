-- Document 02, W2, "a count for each key": a piano has 16 places for counts, and those past the instrument's keys decide nothing. No event
-- reads a count, a sample only the one that it raises, and the sum, with it refusal 7, only the keys'. States alike but for those places
-- run to states alike but for them, with the same samples and forces. Assumes nothing.
use Rattle.std.specs.Prelude.{◌≡◌, Bool, cond, ltb, take, get_or, Option, None, Some}
use Rattle.std.specs.Option.{unwrap_or, option_map}
use Rattle.std.proofs.Math.Path.{refl, sym, ap}
use Rattle.std.proofs.Common.{◌∙◌, arith}
use Rattle.std.proofs.Math.Logic.{⊎_elim}
use Rattle.std.proofs.Math.Bool.{true, false}
use mathlib.Core.List.{List, [], ◌∷◌}
use Prim.Native.Nat.{ℕ, zero, suc, ◌+◌, ◌≤◌, ◌<◌}
use Rattle.std.proofs.Math.ListN.{length-take}
use Rattle.std.proofs.lemmas.List.{take-set-le}
use Rattle.std.proofs.Math.Seq.{take-set-lt, get_or-take, set_out}
use Rattle.counting.specs.Laws.{lt_or_ge, sum_cong}
use Rattle.instrument.specs.declared.Instrument.{Instrument}
use Rattle.instrument.specs.KeyIndex.{key_index}
use Rattle.points.specs.declared.Flight.{Flight}
use Rattle.sample.specs.Sample.{counted_for}
use Rattle.sample_constants.specs.Model.{strings_of}
use Rattle.score.specs.declared.Event.{Event}
use Rattle.score.specs.declared.Event.TheVariants.{NoteOn, NoteOff, Pedal, HandDamp}
use Rattle.score.specs.declared.TimedEvent.{TimedEvent}
use Rattle.score.specs.declared.Piano.{Piano}
use Rattle.score.specs.Events.{State, cleared_all, struck_key, held_to, hand_damped, pedal_to, on_key, applied, apply_all}
use Rattle.score.specs.Score.{events_at}
use Rattle.score.specs.Contacts.{contacts_of}
use Rattle.render.specs.Steps.{state_after, values_each}
use Rattle.render.specs.Render.{Stepped, stepped, sample_with, sample_at, run, samples, forces}
use Rattle.session_cues.specs.declared.Cue.{Cue}
use Rattle.session_cues.specs.Cues.{sound_piano, sound_cue, sound_cue_to}

-- a piano, a state and a cue with the counts of so many keys alone
abbrev pub of_keys : ℕ → Piano → Piano
of_keys keys p = record {
  held = p.held;
  hand_damped = p.hand_damped;
  damper_r = p.damper_r;
  contact_samples = take keys p.contact_samples;
  pedal = p.pedal;
  motion = p.motion;
}

abbrev pub state_of_keys : ℕ → State → State
state_of_keys keys s = record { piano = of_keys keys s.piano; cells = s.cells }

abbrev pub cue_of_keys : ℕ → Cue → Cue
cue_of_keys keys c = record { kept = c.kept; position = c.position; piano = of_keys keys c.piano }

-- two states of an instrument alike but for counts of places past its keys
abbrev pub SameState : Instrument → State → State → Type 0
SameState i s s' = state_of_keys i.key_count s ≡ state_of_keys i.key_count s'

-- ---- what reads the counts

module _ (keys : ℕ) where
  -- the sum over the keys reads no place past them
  contacts_of_keys : (p : Piano) → contacts_of keys (of_keys keys p) ≡ contacts_of keys p
  unfolding contacts_of
  contacts_of_keys p = sum_cong keys _ _ (λ j low. get_or-take keys p.contact_samples j 0 low)

  -- so pianos alike but for those places have one sum
  pub same_contacts : (p q : Piano) → of_keys keys p ≡ of_keys keys q → contacts_of keys p ≡ contacts_of keys q
  same_contacts p q e = sym (contacts_of_keys p) ∙ ap (contacts_of keys) e ∙ contacts_of_keys q

  -- and are sound alike: refusal 7 reads of a piano the sum and the hammer
  pub same_sound_piano : (x : ℕ) (p q : Piano) → of_keys keys p ≡ of_keys keys q → sound_piano keys x p ≡ sound_piano keys x q
  unfolding sound_piano
  same_sound_piano x p q e = let hammer : p.motion.hammer ≡ q.motion.hammer = ap (λ (y : Piano). y.motion.hammer) e in rw (same_contacts p q e, hammer) refl

  -- so are cues: it reads of one its position, its piano by the same test, and whether it is kept
  pub same_sound_cue : (c d : Cue) → cue_of_keys keys c ≡ cue_of_keys keys d → sound_cue keys c ≡ sound_cue keys d
  unfolding sound_cue_to
  same_sound_cue c d e =
      let kept : c.kept ≡ d.kept = ap (λ (y : Cue). y.kept) e in
      let position : c.position ≡ d.position = ap (λ (y : Cue). y.position) e in
      rw (kept, position, same_sound_piano d.position c.piano d.piano (ap (λ (y : Cue). y.piano) e)) refl

  -- a sample in contact raises one count, and reads that one alone: a key's is in either list, and one past the keys is cut off
  counted_of_keys : (h : Option Flight) (contact : Bool) (counts : List ℕ) → counted_for h contact (take keys counts) ≡ take keys (counted_for h contact counts)
  unfolding counted_for
  counted_of_keys None contact counts = refl
  counted_of_keys (Some h) false counts = refl
  counted_of_keys (Some h) true counts =
      let k = h.key_index in
      let more = get_or counts k 0 + 1 in
      ⊎_elim
      (λ (low : k < keys). rw (get_or-take keys counts k 0 low) (sym (take-set-lt keys counts k more low)))
      (λ (past : keys ≤ k).
      set_out (take keys counts) k _ (omega (arith, past, length-take keys counts)) ∙ sym (take-set-le keys counts k more past))
      (lt_or_ge k keys)

-- ---- a sample, and a run of them

module _ (i : Instrument) where
  abbrev keys : ℕ
  keys = i.key_count

  -- whether a change is made on a key, the key's number decides: where the change reads no count, nothing does
  on_key_of_keys : (x : ℕ) (f : ℕ → State → State) (s : State) → ((k : ℕ) → f k (state_of_keys keys s) ≡ state_of_keys keys (f k s))
      → on_key i x f (state_of_keys keys s) ≡ state_of_keys keys (on_key i x f s)
  on_key_of_keys x f s h = let k = key_index i.keys 0 keys x in by_test k (ltb k keys)
    where
      by_test : (k : ℕ) (b : Bool) → unwrap_or (option_map (λ j. f j (state_of_keys keys s)) (cond b (Some k) None)) (state_of_keys keys s)
          ≡ state_of_keys keys (unwrap_or (option_map (λ j. f j s) (cond b (Some k) None)) s)
      by_test k true = h k
      by_test k false = refl

  -- no event reads a count
  applied_of_keys : (e : Event) (s : State) → applied i (strings_of i) e (state_of_keys keys s) ≡ state_of_keys keys (applied i (strings_of i) e s)
  unfolding applied struck_key held_to hand_damped pedal_to
  applied_of_keys (NoteOn x v) s = on_key_of_keys x (λ k s. record { piano = struck_key k v s.piano; cells = cleared_all k (strings_of i) s.cells }) s
      (λ k. refl)
  applied_of_keys (NoteOff x) s = on_key_of_keys x (λ k s. record { piano = held_to false k s.piano; cells = s.cells }) s (λ k. refl)
  applied_of_keys (Pedal b) s = refl
  applied_of_keys (HandDamp x) s = on_key_of_keys x (λ k s. record { piano = hand_damped k s.piano; cells = s.cells }) s (λ k. refl)

  -- nor do any, one after the other
  apply_all_of_keys : (es : List Event) (s : State)
      → apply_all i (strings_of i) es (state_of_keys keys s) ≡ state_of_keys keys (apply_all i (strings_of i) es s)
  unfolding apply_all
  apply_all_of_keys [] s = refl
  apply_all_of_keys (e ∷ es) s = ap (apply_all i (strings_of i) es) (applied_of_keys e s) ∙ apply_all_of_keys es (applied i (strings_of i) e s)

  -- what a sample leaves, with the counts of the keys alone
  abbrev stepped_of_keys : Stepped → Stepped
  stepped_of_keys r = record { state = state_of_keys keys r.state; out = r.out; force = r.force; contact = r.contact }

  -- a sample reads of the counts only the one that it raises, and its events read none
  sample_of_keys : (es : List Event) (t : ℕ) (s : State) → sample_with i es t (state_of_keys keys s) ≡ stepped_of_keys (sample_with i es t s)
  unfolding sample_with stepped
  sample_of_keys es t s =
      let acted = apply_all i (strings_of i) es s in
      rw (apply_all_of_keys es s, counted_of_keys keys acted.piano.motion.hammer (sample_with i es t s).contact acted.piano.contact_samples) refl

  -- from states alike but for counts past the keys, a sample of a score leaves such states, and gives the same output and force
  same_sample : (score : List TimedEvent) (t : ℕ) (s s' : State) → SameState i s s'
      → stepped_of_keys (sample_at i score t s) ≡ stepped_of_keys (sample_at i score t s')
  same_sample score t s s' e = sym (sample_of_keys (events_at score t) t s) ∙ ap (sample_at i score t) e ∙ sample_of_keys (events_at score t) t s'

  module _ (score : List TimedEvent) (t : ℕ) (s s' : State) (e : SameState i s s') where
    -- so does a run of n, sample by sample
    pub same_run : (n : ℕ) → SameState i (run i score t n s) (run i score t n s')
    unfolding state_after
    same_run zero = e
    same_run (suc n) = ap (λ (r : Stepped). r.state) (same_sample score (t + n) _ _ (same_run n))

    -- and each of its samples has the same output and force
    pub same_samples : (n : ℕ) → samples i score t n s ≡ samples i score t n s'
    same_samples n = values_each _ _ t s _ _ s' n (λ k low. ap (λ (r : Stepped). r.out ∷ []) (same_sample score (t + k) _ _ (same_run k)))

    pub same_forces : (n : ℕ) → forces i score t n s ≡ forces i score t n s'
    same_forces n = values_each _ _ t s _ _ s' n (λ k low. ap (λ (r : Stepped). r.force) (same_sample score (t + k) _ _ (same_run k)))
