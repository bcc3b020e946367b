-- Only a hammer that flies is in contact; a sample pushes one force at most, bounded as the contacts' forces are; it reads of `down` only
-- the keys there are, and of the lent cells asks only their number.
use Rattle.std.proofs.Math.Path.{◌≡◌}
use Rattle.std.proofs.Common.{ap, subst}
use Rattle.std.specs.Prelude.{Bool, List, [], ◌∷◌, ℕ, ◌≤◌, ◌<◌, T, get_or, Option, None, Some, option_map, option_to_list, Float}
use Rattle.std.proofs.Math.Bool.{false}
use native.Mathlib.Omega.{arith}
use Rattle.std.proofs.Math.ListN.{length}
use Rattle.std.specs.Float.Ieee.{le}
use Rattle.std.specs.Float.Ieee.Positive.{positive}
use Rattle.float.specs.Float.{zero as +0}
use Rattle.points.specs.declared.Flight.{Flight}
use Rattle.string.specs.declared.Reads.{Reads}
use Rattle.points.specs.Points.{c1_of}
use Rattle.strings.specs.Strings.{reads_all, filtered_all}
use Rattle.strings.specs.Bound.{TopsFit, point_bound, force_sum_bound}
use Rattle.keys.specs.Laws.{dampers_same}
use Rattle.sample.specs.declared.Motion.{Motion}
use Rattle.sample.specs.Sample.{Model, Ready, sampled}

-- cells that are ready stay so: only their number is asked
pub ready_kept : {m : Model} {w v w' v' : List Float} → Ready m w v → length w' ≡ length w → length v' ≡ length v → Ready m w' v'
ready_kept r hw hv = record { fit = r.fit; keys = r.keys; cells = omega (arith, r.cells); scratch = omega (arith, r.scratch) }

module _ (m : Model) (down : ℕ → Bool) (t : ℕ) (R : List Float) (motion : Motion) (w : List Float) where
  -- only a hammer that flies is in contact
  pub sampled_contact : motion.hammer ≡ None → (sampled m down t R motion w).contact ≡ false
  unfolding sampled
  sampled_contact e = rw e

  -- one force or none
  pub sampled_force : length (sampled m down t R motion w).force ≤ 1
  unfolding sampled
  sampled_force = by_hammer motion.hammer _
    where
      by_hammer : (h : Option Flight) (f : Float) → length (option_to_list (option_map (λ _. f) h)) ≤ 1
      by_hammer (Some h) f = omega arith
      by_hammer None f = omega arith

  -- of `down` it reads only the keys there are
  pub sampled_same : (up : ℕ → Bool) → ((k : ℕ) → k < length m.keys → down k ≡ up k) → sampled m down t R motion w ≡ sampled m up t R motion w
  unfolding sampled
  sampled_same up h = rw (dampers_same m.keys down up R h)

  -- what the strings read, and their cells at the points
  abbrev v : List Reads
  v = reads_all m.strings t w

  abbrev w' : List Float
  w' = filtered_all m.strings t w

  abbrev bound : Float
  bound = point_bound m.constants motion.hammer m.strings v w' +0

  -- Document 02, W6, summed: a force f that the sample pushes lies from 0 to the sum of the bounds of the strings that the hammer is at,
  -- rounded at each string as the forces' sum is
  pub sampled_bound : T (positive (c1_of m.constants)) → TopsFit m.constants motion.hammer m.strings v w'
      → (f : Float) → (sampled m down t R motion w).force ≡ f ∷ [] → T (le +0 f) × T (le f bound)
  unfolding sampled
  sampled_bound q fit f e =
      by_hammer motion.hammer _ e (force_sum_bound m.constants motion.hammer m.strings v w' q fit)
    where
      none : ◌≡◌ {A = ℕ} 0 1 → ⊥
      none h = omega arith

      by_hammer : (h : Option Flight) (s : Float) → option_to_list (option_map (λ _. s) h) ≡ f ∷ [] → T (le +0 s) × T (le s bound)
          → T (le +0 f) × T (le f bound)
      by_hammer (Some h) s e k = subst (λ (x : Float). T (le +0 x) × T (le x bound)) (ap (λ (l : List Float). get_or l 0 +0) e) k
      by_hammer None s e k = absurd (none (ap length e))
