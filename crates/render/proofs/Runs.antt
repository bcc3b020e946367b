-- How a render goes on: runs one after the other are one run; a stretch with no event behind its first sample is a run of the score; and what filled tables
-- give the functions that read them.
use mathlib.Core.Path.{◌≡◌, refl, sym, ap, ◌∙◌}
use mathlib.Core.Bool.{Bool, false}
use mathlib.Core.List.{List, [], ◌∷◌, ◌++◌}
use Prim.Native.Nat.{ℕ, zero, suc, ◌+◌, ◌-◌, ◌≤◌, ◌<◌}
use native.Mathlib.Nat.{add-zero, zero-add}
use native.Mathlib.Omega.{arith}
use lib.ListN.{length, get_or, set, length-append}
use lib.Seq.{sets, length-sets}
use lib.Ieee.{Float}
use Rattle.cells.specs.Numbered.{list_length}
use Rattle.string.specs.declared.StringDesign.{StringDesign}
use Rattle.instrument.specs.declared.Instrument.{Instrument}
use Rattle.sample.specs.Sample.{Model, Step, Ready, sampled, counted_for}
use Rattle.sample.specs.Laws.{sampled_force, sampled_same}
use Rattle.sample_constants.specs.Model.{strings_of, string_in, model_of, key_in}
use Rattle.sample_constants.specs.Laws.{strings_fit}
use Rattle.score.specs.declared.Piano.{Piano}
use Rattle.score.specs.declared.TimedEvent.{TimedEvent}
use Rattle.score.specs.Events.{State, Playable, is_down, apply_all}
use Rattle.score.specs.Score.{events_at}
use Rattle.score.specs.Contacts.{contacts_of}
use Rattle.score.specs.Laws.{apply_all_count, counted_most}
use Rattle.render.specs.declared.Run.{Run}
use Rattle.render.specs.declared.Stretch.{Stretch}
use Rattle.render.specs.Steps.{state_after, values_of, run_add, values_add, values_length, values_each, run_keeps, sets_append}
use Rattle.render.specs.Hammers.{sampled_on, all_on}
use Rattle.render.specs.Render.{Stepped, Rendering, Advanced, InRange, NextStretch, Renderable, Rendered, with_motion, stepped, sample_with, sample_at}
use Rattle.render.specs.Render.{state_by, samples_by, forces_by, run, rendering_of, unstarted, stretch_step}

-- ---- a render that goes on

module _ {step : ℕ → State → Stepped} where
  -- nothing done yet
  pub advanced_start : (t : ℕ) (a : Rendering) → Advanced step t a a
  unfolding state_after values_of
  advanced_start t a =
      let z : a.done - a.done ≡ 0 = omega arith in
      record { from = omega arith; state = rw z; outs = rw z; traced = rw z; forced = rw z (omega arith) }

  -- from a to b, and then from b to d
  module _ {t : ℕ} {a b d : Rendering} (ab : Advanced step t a b) (bd : Advanced step t b d) where
    abbrev n₁ : ℕ
    n₁ = b.done - a.done

    abbrev n₂ : ℕ
    n₂ = d.done - b.done

    abbrev next : ℕ → State → State
    next u x = (step u x).state

    pub advanced_then : Advanced step t a d
    advanced_then =
        let af = ab.from in
        let bf = bd.from in
        let n : d.done - a.done ≡ b.done - a.done + (d.done - b.done) = omega arith in
        let place : t + b.done ≡ t + a.done + (b.done - a.done) = omega arith in
        let s₁ = state_by step (t + a.done) n₁ a.state in
        let v₁ = samples_by step (t + a.done) n₁ a.state in
        let v₂ = samples_by step (t + a.done + n₁) n₂ s₁ in
        let f₁ = forces_by step (t + a.done) n₁ a.state in
        let f₂ = forces_by step (t + a.done + n₁) n₂ s₁ in
        let vs : samples_by step (t + a.done) (d.done - a.done) a.state ≡ v₁ ++ v₂ =
        rw n (values_add next (λ u x. (step u x).out ∷ []) (t + a.done) n₁ n₂ a.state) in
        let fs : forces_by step (t + a.done) (d.done - a.done) a.state ≡ f₁ ++ f₂ =
        rw n (values_add next (λ u x. (step u x).force) (t + a.done) n₁ n₂ a.state) in
        let l : b.done ≡ a.done + length v₁ = omega (arith, values_length next (λ u x. (step u x).out) (t + a.done) n₁ a.state) in
        let st : d.state ≡ state_by step (t + a.done + n₁) n₂ s₁ = rw (ab.state, place) at bd.state in
        let ot : d.out ≡ sets (sets a.out a.done v₁) b.done v₂ = rw (ab.outs, ab.state, place) at bd.outs in
        let tt : d.trace ≡ sets (sets a.trace a.pushed f₁) b.pushed f₂ = rw (ab.traced, ab.state, place) at bd.traced in
        let kt : d.pushed ≡ b.pushed + length f₂ = rw (ab.state, place) at bd.forced in
        record {
          from = omega arith;
          state = st ∙ sym (run_add next (t + a.done) n₁ n₂ a.state) ∙ ap (λ (x : ℕ). state_by step (t + a.done) x a.state) (sym n);
          outs = ot ∙ ap (λ (x : ℕ). sets (sets a.out a.done v₁) x v₂) l ∙ sym (sets_append a.out a.done v₁ v₂)
              ∙ ap (λ (x : List Float). sets a.out a.done x) (sym vs);
          traced = tt ∙ ap (λ (x : ℕ). sets (sets a.trace a.pushed f₁) x f₂) ab.forced ∙ sym (sets_append a.trace a.pushed f₁ f₂)
              ∙ ap (λ (x : List Float). sets a.trace a.pushed x) (sym fs);
          forced = rw fs (omega (arith, kt, ab.forced, length-append f₁ f₂));
        }

  -- the buffers keep their lengths
  pub advanced_lengths : {t : ℕ} {a b : Rendering} → Advanced step t a b → (length b.out ≡ length a.out) × (length b.trace ≡ length a.trace)
  advanced_lengths {t} {a} {b} w = (ap length w.outs ∙ simp length-sets, ap length w.traced ∙ simp length-sets)

-- a render from the start of its buffers, m samples done, is the promise of `render`
pub advanced_rendered : (i : Instrument) (score : List TimedEvent) (t m : ℕ) {p : Piano} {w o tr : List Float} {b : Rendering}
    → Advanced (sample_at i score) t (unstarted p w o tr) b
    → b.done ≡ m → Rendered i score t m (unstarted p w o tr) b
advanced_rendered i score t m {b = b} w h =
    let z : b.done - 0 ≡ m = omega arith in
    record {
      state = rw (add-zero t, z) at w.state;
      outs = rw (add-zero t, z) at w.outs;
      traced = rw (add-zero t, z) at w.traced;
      counted = h;
      forced = rw (add-zero t, z) at w.forced ∙ zero-add _;
    }

-- ---- one turn of the loop over samples

module _ (m : Model) (down : ℕ → Bool) (t : ℕ) (p : Piano) (w : List Float) (done pushed : ℕ)
    (step : Step) (e : step ≡ sampled m down (t + done) p.damper_r p.motion w) (counts : List ℕ)
    (hc : counts ≡ counted_for p.motion.hammer step.contact p.contact_samples)
    (pushed' : ℕ) (hp : pushed' ≡ pushed + length step.force) where
  -- the code's run where the loop stands, and a sample on
  abbrev before : Run
  before = record { piano = p; done = done; pushed = pushed }

  abbrev after : Run
  after = record { piano = with_motion p step.damper_r counts step.motion; done = done + 1; pushed = pushed' }

  -- a sample, its output stored and its force pushed
  turn_advanced : {out trace out' trace' : List Float} → out' ≡ set out done step.out → trace' ≡ sets trace pushed step.force
      → Advanced (stepped m down) t (rendering_of before w out trace) (rendering_of after step.cells out' trace')
  unfolding state_after values_of stepped
  turn_advanced ho ht =
      let z : done + 1 - done ≡ 1 = omega arith in
      record {
        from = omega arith;
        state = rw (z, add-zero (t + done), ← e, hc);
        outs = rw (z, add-zero (t + done), ← e) ho;
        traced = rw (z, add-zero (t + done), ← e) ht;
        forced = rw (z, add-zero (t + done), ← e) hp;
      }

  -- the counts stay within the position, and the hammer on its key
  turn_in_range : {keys stop : ℕ} → InRange keys before t stop → done < stop → InRange keys after t stop
  unfolding contacts_of
  turn_in_range {keys} r more =
      let count = rw (← hc) at (counted_most keys p.motion.hammer step.contact p.contact_samples) in
      let few = rw (← e) at (sampled_force m down (t + done) p.damper_r p.motion w) in
      record {
        below = omega arith;
        end = r.end;
        piano = record {
          within = omega (arith, count, r.piano.within);
          hammer = rw (← e) at (sampled_on keys m down (t + done) p.damper_r p.motion w r.piano.hammer);
        };
        pushes = omega (arith, r.pushes);
      }

  pub one_turn : {keys stop : ℕ} {out trace out' trace' : List Float} → InRange keys before t stop → done < stop
      → out' ≡ set out done step.out → trace' ≡ sets trace pushed step.force
      → Advanced (stepped m down) t (rendering_of before w out trace) (rendering_of after step.cells out' trace') × InRange keys after t stop
  one_turn r more ho ht = (turn_advanced ho ht, turn_in_range r more)

-- ---- the samples of a stretch are the score's

module _ (i : Instrument) (score : List TimedEvent) (t : ℕ) (s e : State) (D : ℕ → Bool) (he : e ≡ apply_all i (strings_of i) (events_at score t) s)
    (agree : (k : ℕ) → k < i.key_count → D k ≡ is_down i e.piano k) where
  abbrev still : ℕ → State → Stepped
  still = stepped (model_of i) D

  -- no sample touches what the dampers look at
  kept : (n k : ℕ) → is_down i (state_by still t n e).piano k ≡ is_down i e.piano k
  unfolding stepped
  kept n k = run_keeps (λ u x. (still u x).state) (λ (x : State). is_down i x.piano k) t n e (λ u x. refl)

  -- so `D` says which are to be down
  down_same : (u : ℕ) (x : State) → ((k : ℕ) → is_down i x.piano k ≡ is_down i e.piano k) → stepped (model_of i) (is_down i x.piano) u x ≡ still u x
  unfolding stepped
  down_same u x h =
      rw (sampled_same (model_of i) (is_down i x.piano) u x.piano.damper_r x.piano.motion x.cells D
      (λ k q. h k ∙ sym (agree k (omega (arith, q, list_length (key_in i) 0 i.key_count)))))

  first_same : sample_at i score t s ≡ still t e
  unfolding sample_with
  first_same = rw (← he) (down_same t e (λ k. refl))

  later_same : (u : ℕ) (x : State) → ((k : ℕ) → is_down i x.piano k ≡ is_down i e.piano k) → events_at score u ≡ [] → sample_at i score u x ≡ still u x
  unfolding sample_with apply_all
  later_same u x h q = rw q (down_same u x h)

  pub sample_same : (n : ℕ) → ((u : ℕ) → t + 1 ≤ u → u < t + suc n → events_at score u ≡ [])
      → sample_at i score (t + n) (run i score t n s) ≡ still (t + n) (state_by still t n e)
  unfolding state_after
  sample_same zero none = rw (add-zero t) first_same
  sample_same (suc n) none =
      ap (λ (x : Stepped). sample_at i score (t + suc n) x.state) (sample_same n (λ u a b. none u a (omega arith)))
      ∙ later_same (t + suc n) (state_by still t (suc n) e) (kept (suc n)) (none (t + suc n) (omega arith) (omega arith))

-- ---- what the instrument's strings and keys give the functions that read them

module _ {i : Instrument} {part scratch : List Float} (can : Renderable i part scratch) where
  pub strings_playable : {designs : List StringDesign} → designs ≡ strings_of i → (w : List Float) → length w ≡ length part → Playable i designs w
  strings_playable e w h = rw e (record {
    keys = can.keys;
    few = rw (list_length (string_in i) 0 i.string_count) can.strings;
    cells = omega (arith, can.cells);
  })

  pub model_ready : {m : Model} → m ≡ model_of i → (w v : List Float) → length w ≡ length part → length v ≡ length scratch → Ready m w v
  model_ready e w v hw hv = rw e (record {
    fit = strings_fit i can.keys can.strings;
    keys = rw (list_length (key_in i) 0 i.key_count) can.keys;
    cells = omega (arith, can.cells);
    scratch = rw (list_length (string_in i) 0 i.string_count) (omega (arith, can.room));
  })

  -- of a stretch that follows a run of the score
  module _ {score : List TimedEvent} {t m : ℕ} {r : Run} {cells cells' : List Float} {s : Stretch} (q : NextStretch i score t m r cells cells' s) where
    pub stretch_in_range : InRange i.key_count r t m → InRange i.key_count s.run s.t s.stop
    unfolding contacts_of
    stretch_in_range g =
        let es = events_at score (t + r.done) in
        let S : State = record { piano = r.piano; cells = cells } in
        let count = ap (λ (x : State). x.piano.contact_samples) q.acted ∙ apply_all_count i (strings_of i) es S in
        rw (q.start, q.done) (record {
          below = omega (arith, q.more);
          end = omega (arith, g.end, q.most);
          piano = record { within = rw count g.piano.within; hammer = rw (← q.acted) at (all_on i (strings_of i) es S g.piano.hammer) };
          pushes = omega (arith, g.pushes, q.pushed);
        })

    -- its samples are samples of the score
    pub stretch_advanced : {model : Model} → model ≡ model_of i → {out trace : List Float} {b : Rendering}
        → Advanced (stretch_step s model) s.t (rendering_of s.run cells' out trace) b → b.done ≡ s.stop
        → Advanced (sample_at i score) t (rendering_of r cells out trace) b
    unfolding state_after
    stretch_advanced {model} filled {out} {trace} {b} w stopped =
        let D : ℕ → Bool = λ k. get_or s.down k false in
        let still = stepped (model_of i) D in
        let S : State = record { piano = r.piano; cells = cells } in
        let E : State = record { piano = s.run.piano; cells = cells' } in
        let u = t + r.done in
        let n = b.done - r.done in
        let went = rw (filled, q.start, q.done, q.pushed) at w in
        let same : (k : ℕ) → k < b.done - r.done → sample_at i score (u + k) (run i score u k S) ≡ still (u + k) (state_by still u k E) =
        λ k h. sample_same i score u S E D q.acted q.down.each k (λ x a c. q.none x a (omega (arith, c, h, stopped))) in
        let more : b.done - r.done ≡ suc (b.done - r.done - 1) = omega (arith, q.more, stopped) in
        let st : run i score u n S ≡ state_by still u n E = rw more (ap (λ (x : Stepped). x.state) (same (n - 1) (omega (arith, q.more, stopped)))) in
        let listed : (g : Stepped → List Float) → values_of (λ x y. (sample_at i score x y).state) (λ x y. g (sample_at i score x y)) u n S
        ≡ values_of (λ x y. (still x y).state) (λ x y. g (still x y)) u n E =
        λ g. values_each (λ x y. (sample_at i score x y).state) (λ x y. (still x y).state) u S (λ x y. g (sample_at i score x y))
        (λ x y. g (still x y)) E n (λ k h. ap g (same k h)) in
        record {
          from = went.from;
          state = went.state ∙ sym st;
          outs = rw (listed (λ x. x.out ∷ [])) went.outs;
          traced = rw (listed (λ x. x.force)) went.traced;
          forced = rw (listed (λ x. x.force)) went.forced;
        }

    pub stretch_done : {r' : Run} → InRange i.key_count r t m → InRange i.key_count r' s.t s.stop → InRange i.key_count r' t m
    stretch_done g h =
        let k = rw q.start at h in
        record { below = omega (arith, k.below, q.most); end = g.end; piano = k.piano; pushes = k.pushes }
