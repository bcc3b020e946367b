-- A signal may be decimated window by window: where a window reaches 63 samples to either side of a sample, or ends
-- where the signal does, every tap meets there what it meets in the whole
-- signal, and the filtered sample is the same. The program `decimate` goes by it. Assumes nothing.
use mathlib.Core.Path.{◌≡◌, refl, sym, ap, ◌∙◌}
use mathlib.Core.List.{List}
use mathlib.Core.Logic.{◌⊎◌, ⊎_elim}
use Prim.Native.Nat.{ℕ, zero, suc, ◌+◌, ◌-◌, ◌≤◌, ◌<◌}
use native.Mathlib.Omega.{arith}
use lib.ListN.{length, take, drop, get_or, length-drop}
use lib.Seq.{get_or-take, get_or-drop, length-take-le}
use lib.Ieee.{Float, nan, binary64, add, mul}
use Rattle.counting.specs.Laws.{lt_or_ge}
use Rattle.decimator.specs.Decimate.{weighed, tap_sum, filtered_at}
use Rattle.decimator.proofs.Cases.{before_first, meets, past_last}

-- the n samples from `first` on, around sample `at`
module _ (x taps : List Float) (first n at : ℕ) (inside : first + n ≤ length x) (from : first ≤ at) (left : (first ≡ 0) ⊎ (first + 63 ≤ at))
    (right : (first + n ≡ length x) ⊎ (at + 64 ≤ first + n)) where
  abbrev window : List Float
  window = take n (drop first x)

  window_length : length window ≡ n
  window_length = length-take-le n (drop first x) (simp length-drop (omega arith))

  -- Tap k meets the window's sample at - first + k - 63, which is the signal's at + k - 63.
  module _ (k : ℕ) (tap : k < 127) where
    none_before : at + k < 63 → at - first + k < 63
    none_before h = ⊎_elim (λ e. omega arith) (λ e. absurd (omega arith)) left

    some_before : 63 ≤ at + k → 63 ≤ at - first + k
    some_before h = ⊎_elim (λ e. omega arith) (λ e. omega arith) left

    some_there : 63 ≤ at + k → at + k - 63 < length x → at - first + k - 63 < length window
    some_there h l = let m = some_before h in let w = window_length in ⊎_elim (λ e. omega arith) (λ e. omega arith) right

    none_there : 63 ≤ at + k → length x ≤ at + k - 63 → length window ≤ at - first + k - 63
    none_there h l = let m = some_before h in let w = window_length in ⊎_elim (λ e. omega arith) (λ e. absurd (omega arith)) right

    same_sample : 63 ≤ at + k → at + k - 63 < length x → get_or window (at - first + k - 63) nan ≡ get_or x (at + k - 63) nan
    same_sample h l =
        let m = some_before h in
        let there : at - first + k - 63 < n = omega (arith, some_there h l, window_length) in
        let place : first + (at - first + k - 63) ≡ at + k - 63 = omega arith in
        get_or-take n (drop first x) (at - first + k - 63) nan there ∙ get_or-drop first x (at - first + k - 63) nan ∙ ap (λ (j : ℕ). get_or x j nan) place

    weighed_same : (sum : Float) → weighed window taps (at - first) k sum ≡ weighed x taps at k sum
    weighed_same sum =
        ⊎_elim
        (λ h. sym (before_first window taps (at - first) k sum (none_before h)) ∙ before_first x taps at k sum h)
        (λ h.
        ⊎_elim
        (λ l.
        sym (meets window taps (at - first) k sum (some_before h) (some_there h l))
        ∙ ap (λ (v : Float). add binary64 sum (mul binary64 (get_or taps k nan) v)) (same_sample h l) ∙ meets x taps at k sum h l)
        (λ l. sym (past_last window taps (at - first) k sum (some_before h) (none_there h l)) ∙ past_last x taps at k sum h l)
        (lt_or_ge (at + k - 63) (length x)))
        (lt_or_ge (at + k) 63)

  summed_same : (k : ℕ) → k ≤ 127 → tap_sum window taps (at - first) k ≡ tap_sum x taps at k
  unfolding tap_sum
  summed_same zero h = refl
  summed_same (suc k) h =
      ap (λ (s : Float). weighed window taps (at - first) k s) (summed_same k (omega arith)) ∙ weighed_same k (omega arith) (tap_sum x taps at k)

  pub window_same : filtered_at window taps (at - first) ≡ filtered_at x taps at
  window_same = summed_same 127 (omega arith)
