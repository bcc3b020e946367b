-- The laws of the render that the layers above need: a run of m + k is the run of m, then of k; the state at p depends only on the events below p;
-- lengths stay; the keys' counts add up to the Rust's one count, which is at most the position.
use Rattle.std.specs.Prelude.{◌≡◌, Bool, true, Float}
use Rattle.std.proofs.Math.Path.{refl, ap}
use Rattle.std.proofs.Common.{◌∙◌, zero-add}
use Rattle.std.proofs.Math.Bool.{cond}
use mathlib.Core.List.{List, [], ◌∷◌, ◌++◌}
use Prim.Native.Nat.{ℕ, zero, suc, ◌+◌, ◌≤◌, ◌<◌}
use native.Mathlib.Omega.{arith}
use Rattle.std.proofs.Math.ListN.{length, length-replicate}
use Rattle.counting.specs.Below.{sum_below}
use Rattle.counting.specs.Sums.{sum_of, sum_zeros}
use Rattle.instrument.specs.declared.Instrument.{Instrument}
use Rattle.strings.specs.Strings.{cells_of, reads_all, v_ins, filtered_all, points_all, nuts_all}
use Rattle.strings.specs.Laws.{filtered_all_length, points_all_length, nuts_all_length, bridge_all_length}
use Rattle.keys.specs.Keys.{dampers, bridge_speeds}
use Rattle.sample.specs.declared.Motion.{Motion}
use Rattle.sample.specs.Sample.{Model, sampled}
use Rattle.sample.specs.Laws.{sampled_contact, sampled_force}
use Rattle.sample_constants.specs.Model.{strings_of, model_of}
use Rattle.score.specs.declared.Event.{Event}
use Rattle.score.specs.declared.TimedEvent.{TimedEvent}
use Rattle.score.specs.Events.{State, is_down, apply_all}
use Rattle.score.specs.Score.{events_at}
use Rattle.score.specs.Contacts.{contacts_of, hammer_on}
use Rattle.score.specs.Laws.{apply_all_count, apply_all_length, counted_sum, counted_most, counted_length_lem}
use Rattle.render.specs.Steps.{state_after, run_add, values_add, values_length, values_few, run_same}
use Rattle.render.specs.Render.{PianoAt, stepped, sample_with, sample_at, silent_piano, silence, run, samples, forces, render_state}
use Rattle.render.specs.Render.{render_samples, render_forces, render_contacts}
use Rattle.render.specs.Hammers.{all_on, render_hammer}

-- ---- one sample

-- each pass of a sample keeps the number of cells
sampled_length : (m : Model) (down : ℕ → Bool) (t : ℕ) (R : List Float) (motion : Motion) (w : List Float)
    → cells_of m.strings ≤ length w → length (sampled m down t R motion w).cells ≡ length w
unfolding sampled
sampled_length m down t R motion w h =
    let ds = m.strings in
    let c = m.constants in
    let hammer = motion.hammer in
    let R' = dampers m.keys down R in
    let reads = reads_all ds t w in
    let v = v_ins ds t w in
    let w1 = filtered_all ds t w in
    let w2 = points_all c hammer R' ds t reads w1 in
    let w3 = nuts_all ds t reads w2 in
    let n1 : length w1 ≡ length w = filtered_all_length ds w h t in
    let n2 : length w2 ≡ length w1 = points_all_length ds w1 (omega (arith, n1)) c hammer R' t reads in
    let n3 : length w3 ≡ length w2 = nuts_all_length ds w2 (omega (arith, n1, n2)) t reads in
    bridge_all_length ds w3 (omega (arith, n1, n2, n3)) (bridge_speeds c.yz m.keys ds v) v t ∙ n3 ∙ n2 ∙ n1

-- ---- with its events

module _ (i : Instrument) (es : List Event) (t : ℕ) (s : State) where
  abbrev acted : State
  acted = apply_all i (strings_of i) es s

  -- the counts' sum goes up by one at most
  sample_most : (keys : ℕ) → contacts_of keys (sample_with i es t s).state.piano ≤ contacts_of keys s.piano + 1
  unfolding sample_with stepped contacts_of
  sample_most keys =
      let most = counted_most keys acted.piano.motion.hammer (sample_with i es t s).contact acted.piano.contact_samples in
      omega (arith, most, ap (sum_of keys) (apply_all_count i (strings_of i) es s))

  -- there are as many counts as before
  sample_counts : length (sample_with i es t s).state.piano.contact_samples ≡ length s.piano.contact_samples
  unfolding sample_with stepped
  sample_counts = counted_length_lem acted.piano.motion.hammer _ acted.piano.contact_samples ∙ ap length (apply_all_count i (strings_of i) es s)

  -- and it goes up by one exactly in contact, where the hammer is on a key that is there
  sample_sum : hammer_on i.key_count s.piano.motion.hammer ≡ true → i.key_count ≤ length s.piano.contact_samples
      → contacts_of i.key_count (sample_with i es t s).state.piano ≡ contacts_of i.key_count s.piano + cond (sample_with i es t s).contact 1 0
  unfolding sample_with stepped contacts_of
  sample_sum on few =
      counted_sum i.key_count acted.piano.motion.hammer (sample_with i es t s).contact acted.piano.contact_samples (all_on i (strings_of i) es s on)
      (omega (arith, few, ap length (apply_all_count i (strings_of i) es s)))
      (sampled_contact (model_of i) (is_down i acted.piano) t acted.piano.damper_r acted.piano.motion acted.cells)
      ∙ ap (λ (counts : List ℕ). sum_of i.key_count counts + cond (sample_with i es t s).contact 1 0) (apply_all_count i (strings_of i) es s)

  sample_length : cells_of (strings_of i) ≤ length s.cells → length (sample_with i es t s).state.cells ≡ length s.cells
  unfolding sample_with stepped
  sample_length h =
      let n = apply_all_length i (strings_of i) es s h in
      sampled_length (model_of i) (is_down i acted.piano) t acted.piano.damper_r acted.piano.motion acted.cells (omega (arith, n, h)) ∙ n

  sample_force : length (sample_with i es t s).force ≤ 1
  unfolding sample_with stepped
  sample_force = sampled_force (model_of i) (is_down i acted.piano) t acted.piano.damper_r acted.piano.motion acted.cells

-- ---- silence

silent_contacts : (keys : ℕ) → contacts_of keys silent_piano ≡ 0
unfolding silent_piano contacts_of
silent_contacts keys = sum_zeros keys 16

-- it can be rendered from any position on
pub silent_at : (keys t : ℕ) → PianoAt keys silent_piano t
unfolding silent_piano hammer_on
silent_at keys t = record { within = omega (arith, silent_contacts keys); hammer = refl }

-- ---- a run of a score

module _ (i : Instrument) (score : List TimedEvent) where
  -- a run of m + k samples is the run of m, then of k
  pub run_then : (t m k : ℕ) (s : State) → run i score t (m + k) s ≡ run i score (t + m) k (run i score t m s)
  run_then t m k s = run_add (λ u x. (sample_at i score u x).state) t m k s

  pub samples_then : (t m k : ℕ) (s : State) → samples i score t (m + k) s ≡ samples i score t m s ++ samples i score (t + m) k (run i score t m s)
  samples_then t m k s = values_add (λ u x. (sample_at i score u x).state) (λ u x. (sample_at i score u x).out ∷ []) t m k s

  pub forces_then : (t m k : ℕ) (s : State) → forces i score t (m + k) s ≡ forces i score t m s ++ forces i score (t + m) k (run i score t m s)
  forces_then t m k s = values_add (λ u x. (sample_at i score u x).state) (λ u x. (sample_at i score u x).force) t m k s

  -- one sample each, and one force at most
  pub samples_length : (t n : ℕ) (s : State) → length (samples i score t n s) ≡ n
  samples_length t n s = values_length (λ u x. (sample_at i score u x).state) (λ u x. (sample_at i score u x).out) t n s

  pub forces_few : (t n : ℕ) (s : State) → length (forces i score t n s) ≤ n
  forces_few t n s = values_few (λ u x. (sample_at i score u x).state) (λ u x. (sample_at i score u x).force) t n s
      (λ u x. sample_force i (events_at score u) u x)

  -- the counts' sum goes up by one a sample at most
  pub run_contact : (keys t n : ℕ) (s : State) → contacts_of keys (run i score t n s).piano ≤ contacts_of keys s.piano + n
  unfolding state_after
  run_contact keys t zero s = omega arith
  run_contact keys t (suc n) s = omega (arith, sample_most i (events_at score (t + n)) (t + n) (run i score t n s) keys, run_contact keys t n s)

  -- as many counts as before
  run_counts : (t n : ℕ) (s : State) → length (run i score t n s).piano.contact_samples ≡ length s.piano.contact_samples
  unfolding state_after
  run_counts t zero s = refl
  run_counts t (suc n) s = sample_counts i (events_at score (t + n)) (t + n) (run i score t n s) ∙ run_counts t n s

  -- the number of cells stays
  pub run_length : (t n : ℕ) (s : State) → cells_of (strings_of i) ≤ length s.cells → length (run i score t n s).cells ≡ length s.cells
  unfolding state_after
  run_length t zero s h = refl
  run_length t (suc n) s h =
      let r = run_length t n s h in
      sample_length i (events_at score (t + n)) (t + n) (run i score t n s) (omega (arith, r)) ∙ r

  -- ---- the render from silence

  pub render_then : (t m : ℕ) → render_state i score (t + m) ≡ run i score t m (render_state i score t)
  render_then t m = run_then 0 t m (silence i) ∙ ap (λ (u : ℕ). run i score u m (render_state i score t)) (zero-add t)

  pub render_samples_lem : (t m : ℕ) → render_samples i score (t + m) ≡ render_samples i score t ++ samples i score t m (render_state i score t)
  render_samples_lem t m =
      samples_then 0 t m (silence i)
      ∙ ap (λ (u : ℕ). render_samples i score t ++ samples i score u m (render_state i score t)) (zero-add t)

  pub render_forces_lem : (t m : ℕ) → render_forces i score (t + m) ≡ render_forces i score t ++ forces i score t m (render_state i score t)
  render_forces_lem t m = forces_then 0 t m (silence i) ∙ ap (λ (u : ℕ). render_forces i score t ++ forces i score u m (render_state i score t)) (zero-add t)

  silent_sum : (keys : ℕ) → contacts_of keys (silence i).piano ≡ 0
  unfolding silence
  silent_sum keys = silent_contacts keys

  -- the counts' sum is at most the position
  pub render_contact : (p : ℕ) → contacts_of i.key_count (render_state i score p).piano ≤ p
  render_contact p = omega (arith, run_contact i.key_count 0 p (silence i), silent_sum i.key_count)

  render_counts : (p : ℕ) → length (render_state i score p).piano.contact_samples ≡ 16
  unfolding silence silent_piano
  render_counts p = run_counts 0 p (silence i) ∙ length-replicate {A = ℕ} 16 0

  -- the keys' counts at p add up to the samples before p that were in contact: the Rust's one count
  pub render_sum : i.key_count ≤ 16 → (p : ℕ) → contacts_of i.key_count (render_state i score p).piano ≡ render_contacts i score p
  unfolding state_after render_contacts sum_below
  render_sum few zero = silent_sum i.key_count
  render_sum few (suc p) =
      ap (λ (t : ℕ). contacts_of i.key_count (sample_at i score t (render_state i score p)).state.piano) (zero-add p)
      ∙ sample_sum i (events_at score p) p (render_state i score p) (render_hammer i score p) (omega (arith, few, render_counts p))
      ∙ ap (λ (n : ℕ). n + cond (sample_at i score p (render_state i score p)).contact 1 0) (render_sum few p)

  -- a state of a render has W cells
  pub render_length : (p : ℕ) → length (render_state i score p).cells ≡ cells_of (strings_of i)
  unfolding silence
  render_length p = let n = length-replicate (cells_of (strings_of i)) _ in run_length 0 p (silence i) (omega (arith, n)) ∙ n

-- scores with the same events at each position of a run give the same run
run_local : (i : Instrument) (a b : List TimedEvent) (t n : ℕ) (s : State) → ((u : ℕ) → t ≤ u → u < t + n → events_at a u ≡ events_at b u)
    → run i a t n s ≡ run i b t n s
run_local i a b t n s h =
    run_same (λ u x. (sample_at i a u x).state) (λ u x. (sample_at i b u x).state) t s n
    (λ u x p q. ap (λ (es : List Event). (sample_with i es u x).state) (h u p q))

-- the state at p depends only on the events below p
pub render_local : (i : Instrument) (a b : List TimedEvent) (p : ℕ) → ((u : ℕ) → u < p → events_at a u ≡ events_at b u)
    → render_state i a p ≡ render_state i b p
render_local i a b p h = run_local i a b 0 p (silence i) (λ u l q. h u (omega arith))
