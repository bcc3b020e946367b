-- The decimator's definitions by cases, as the code tests them, and its loops turn by turn. Assumes nothing.
use mathlib.Core.Path.{◌≡◌, refl, sym, ap, ◌∙◌}
use mathlib.Core.Bool.{Bool, true, false, cond, ◌||◌}
use mathlib.Core.List.{List, [], ◌∷◌, ◌++◌}
use mathlib.Core.Logic.{⊎_elim}
use Prim.Native.Nat.{ℕ, zero, suc, ◌+◌, ◌-◌, ◌*◌, ◌/◌, ◌%◌, ◌^◌, ◌≤◌, ◌<◌}
use native.Mathlib.Nat.{div-add-mod', mul-le-mul_right, mul-lt-mul_of_pos_right, mul-le-mul_left, eq-zero-or-pos}
use native.Mathlib.Numerals.{add-one}
use native.Mathlib.Omega.{arith}
use lib.Dec.{eqb, ltb}
use lib.ListN.{length, take, set, get_or, length-set}
use lib.Seq.{take-suc-set, take_all}
use lib.Ieee.{Float, nan, binary64, add, mul}
use borrow.Author.Tests.{le-leb, lt-leb, lt-ltb, le-ltb, eq-eqb, ne_eqb, ltb-false, eqb-true}
use Rattle.std.specs.List.{fold, range_with_len}
use Rattle.std.proofs.lemmas.List.Sums.{fold-append}
use Rattle.float.specs.Float.{zero as +0}
use Rattle.counting.specs.Below.{tabulate}
use Rattle.counting.specs.Laws.{tabulate_more}
use Rattle.decimator.specs.Decimate.{output_length, refusal_of, weighed, tap_sum, filtered_at, decimated}
use Rattle.decimator.specs.Steps.{Thins}

-- ---- the output's length

module _ (n factor : ℕ) where
  pub length_same : factor ≤ 1 → n ≡ output_length n factor
  unfolding output_length
  length_same h = rw (le-leb factor 1 h)

  pub length_even : 1 < factor → n % factor ≡ 0 → n / factor ≡ output_length n factor
  unfolding output_length
  length_even h e = rw (lt-leb factor 1 h, eq-eqb (n % factor) 0 e)

  pub length_odd : 1 < factor → (n % factor ≡ 0 → ⊥) → n / factor + 1 ≡ output_length n factor
  unfolding output_length
  length_odd h e = rw (lt-leb factor 1 h, ne_eqb (n % factor) 0 e)

-- the samples that the output starts from lie in the signal
pub start_below : (n factor i : ℕ) → 2 ≤ factor → i < output_length n factor → i * factor < n
start_below n factor i h l =
    ⊎_elim
    (λ e.
    let k : i < n / factor = rw (← length_even n factor (omega arith) e) at l in
    let m : i * factor < n / factor * factor = mul-lt-mul_of_pos_right k (omega arith) in
    omega (arith, div-add-mod' n factor))
    (λ p.
    let k : i < n / factor + 1 = rw (← length_odd n factor (omega arith) (λ e. omega arith)) at l in
    let k' : i ≤ n / factor = omega arith in
    let m : i * factor ≤ n / factor * factor = mul-le-mul_right factor k' in
    omega (arith, div-add-mod' n factor))
    (eq-zero-or-pos (n % factor))

-- a quotient by 2 or more leaves room for one
pub quotient_fits : (n factor : ℕ) → 1 < factor → n < 2 ^ 64 → n / factor + 1 < 2 ^ 64
quotient_fits n factor h k =
    let d = div-add-mod' n factor in
    let m : n / factor * 2 ≤ n / factor * factor = mul-le-mul_left (n / factor) h in
    omega arith

-- ---- the refusals, in order

module _ (n taps factor room : ℕ) where
  pub factor_high : 64 < factor → 17 ≡ refusal_of n taps factor room
  unfolding refusal_of
  factor_high h = rw (lt-ltb 64 factor h)

  pub input_long : factor ≤ 64 → 1048576 < n → 17 ≡ refusal_of n taps factor room
  unfolding refusal_of
  input_long h k = rw (le-ltb 64 factor h, lt-ltb 1048576 n k)

  module _ (h : factor ≤ 64) (k : n ≤ 1048576) where
    pub taps_wrong : (taps ≡ 127 → ⊥) → 18 ≡ refusal_of n taps factor room
    unfolding refusal_of
    taps_wrong e = rw (le-ltb 64 factor h, le-ltb 1048576 n k, ne_eqb taps 127 e)

    pub room_wrong : taps ≡ 127 → (room ≡ output_length n factor → ⊥) → 19 ≡ refusal_of n taps factor room
    unfolding refusal_of
    room_wrong e g = rw (le-ltb 64 factor h, le-ltb 1048576 n k, eq-eqb taps 127 e, ne_eqb room (output_length n factor) g)

    pub none_wrong : taps ≡ 127 → room ≡ output_length n factor → 0 ≡ refusal_of n taps factor room
    unfolding refusal_of
    none_wrong e g = rw (le-ltb 64 factor h, le-ltb 1048576 n k, eq-eqb taps 127 e, eq-eqb room (output_length n factor) g)

-- what each way out of `refusal` has to say
pub ruleset refusals = (factor_high, input_long, taps_wrong, room_wrong, none_wrong)

-- what the number 0 says
only : (a b c d : Bool) → ◌≡◌ {A = ℕ} (cond (a || b) 17 (cond c (cond d 0 19) 18)) 0 → (b ≡ false) × (c ≡ true) × (d ≡ true)
only false false true true e = (refl, refl, refl)
only true b c d e = absurd (omega arith)
only false true c d e = absurd (omega arith)
only false false false d e = absurd (omega arith)
only false false true false e = absurd (omega arith)

pub none_refused : (x taps out : List Float) (factor r : ℕ)
    → r ≡ refusal_of (length x) (length taps) factor (length out) → r ≡ 0 → 1 < factor → Thins x taps factor out
unfolding refusal_of
none_refused x taps out factor r e z h =
    let f = only (ltb 64 factor) (ltb 1048576 (length x)) (eqb (length taps) 127) (eqb (length out) (output_length (length x) factor)) (sym e ∙ z) in
    record {
      most = ltb-false 1048576 (length x) f.0;
      many = eqb-true (length taps) 127 f.1;
      several = h;
      room = eqb-true (length out) (output_length (length x) factor) f.2;
    }

pub same_room : (n taps factor room r : ℕ) → r ≡ refusal_of n taps factor room → r ≡ 0 → factor ≤ 1 → room ≡ n
unfolding refusal_of
same_room n taps factor room r e z h =
    eqb-true room (output_length n factor) (only (ltb 64 factor) (ltb 1048576 n) (eqb taps 127) (eqb room (output_length n factor)) (sym e ∙ z)).2 ∙ sym (length_same n factor h)

-- ---- the taps

range_more : (a n : ℕ) → range_with_len a (suc n) ≡ range_with_len a n ++ ((a + n) ∷ [])
range_more a zero = ap (λ (m : ℕ). m ∷ []) (omega arith)
range_more a (suc n) = ap (λ (l : List ℕ). a ∷ l) (range_more (a + 1) n ∙ ap (λ (m : ℕ). range_with_len (a + 1) n ++ (m ∷ [])) (omega arith))

module _ (x taps : List Float) (at k : ℕ) (sum : Float) where
  pub before_first : at + k < 63 → sum ≡ weighed x taps at k sum
  unfolding weighed
  before_first h = rw (lt-leb 63 (at + k) h)

  pub meets : 63 ≤ at + k → at + k - 63 < length x
      → add binary64 sum (mul binary64 (get_or taps k nan) (get_or x (at + k - 63) nan)) ≡ weighed x taps at k sum
  unfolding weighed
  meets h l = rw (le-leb 63 (at + k) h, lt-ltb (at + k - 63) (length x) l)

  pub past_last : 63 ≤ at + k → length x ≤ at + k - 63 → sum ≡ weighed x taps at k sum
  unfolding weighed
  past_last h l = rw (le-leb 63 (at + k) h, le-ltb (at + k - 63) (length x) l)

-- what each way out of `weigh` has to say
pub ruleset ways = (before_first, meets, past_last)

-- the taps, one after the other
pub tap_sum_fold : (x taps : List Float) (at n : ℕ)
    → fold (λ (s : Float) (k : ℕ). weighed x taps at k s) +0 (range_with_len 0 n) ≡ tap_sum x taps at n
unfolding tap_sum
tap_sum_fold x taps at zero = refl
tap_sum_fold x taps at (suc n) =
    ap (fold (λ (s : Float) (k : ℕ). weighed x taps at k s) +0) (range_more 0 n)
    ∙ fold-append (λ (s : Float) (k : ℕ). weighed x taps at k s) +0 (range_with_len 0 n) ((0 + n) ∷ [])
    ∙ ap (λ (s : Float). weighed x taps at (0 + n) s) (tap_sum_fold x taps at n)
    ∙ ap (λ (k : ℕ). weighed x taps at k (tap_sum x taps at n)) (omega arith)

-- ---- a loop that stores g i at each i

pub record Stored (g : ℕ → Float) (out₀ out : List Float) (i : ℕ) : Type 0 where
  pub within : i ≤ length out₀
  pub same : length out ≡ length out₀
  pub done : take i out ≡ tabulate i g

module _ {g : ℕ → Float} {out₀ : List Float} where
  pub stored_start : Stored g out₀ out₀ 0
  unfolding tabulate
  stored_start = record { within = omega arith; same = refl; done = refl }

  module _ {out : List Float} {i : ℕ} (s : Stored g out₀ out i) where
    pub stored_turn : {v : Float} → i < length out₀ → v ≡ g i → Stored g out₀ (set out i v) (i + 1)
    stored_turn {v} h e = record {
      within = omega arith;
      same = length-set out i v ∙ s.same;
      done =
          ap (λ (n : ℕ). take n (set out i v)) (add-one i) ∙ take-suc-set out i v (omega (arith, s.same))
          ∙ rw (s.done, e) (sym (tabulate_more i g));
    }

    pub stored_end : length out₀ ≤ i → out ≡ tabulate (length out₀) g
    stored_end h =
        let e : i ≡ length out₀ = omega (arith, s.within) in
        sym (take_all i out (omega (arith, s.same))) ∙ s.done ∙ ap (λ (n : ℕ). tabulate n g) e

-- ---- the whole

pub copied : (x taps : List Float) (factor : ℕ) → factor ≤ 1 → x ≡ decimated x taps factor
unfolding decimated
copied x taps factor h = rw (le-leb factor 1 h)

pub thinned : (x taps : List Float) (factor n : ℕ) → 1 < factor → n ≡ output_length (length x) factor
    → tabulate n (λ i. filtered_at x taps (i * factor)) ≡ decimated x taps factor
unfolding decimated
thinned x taps factor n h e = rw (lt-leb factor 1 h, e)
