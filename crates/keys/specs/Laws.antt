-- What dampers and sums read: rules that agree on the keys there are move the dampers alike, and values past the strings' own play no part.
use Rattle.float.specs.Float.{zero as +0}
use Rattle.std.specs.Prelude.{◌≡◌, List, ◌++◌, Bool, ℕ, ◌≤◌, ◌<◌, length, get_or, replicate, Float}
use Rattle.std.proofs.Math.Path.{ap}
use Rattle.std.proofs.Common.{◌∙◌, arith}
use Rattle.std.proofs.Math.ListN.{set, get_or-append}
use Rattle.std.specs.Float.Ieee.{nan, binary64, add}
use Rattle.cells.specs.Numbered.{fold_from, fold_same, Folded, folded_end}
use Rattle.string.specs.Table.{list_of}
use Rattle.string.specs.declared.StringDesign.{StringDesign}
use Rattle.keys.specs.declared.KeyConstants.{KeyConstants}
use Rattle.keys.specs.Keys.{damped_of, dampers, sums_from, bridge_speeds}

-- past the last item of a list, what a loop over it carries is what the whole list gives
pub folded_list : {D A : Type 0} (xs : List D) (d₀ : D) (h : ℕ → D → A → A) (a₀ a : A) (i : ℕ)
    → Folded (λ (k : ℕ). get_or xs k d₀) h (length xs) a₀ a i → length xs ≤ i → a ≡ fold_from h 0 xs a₀
folded_list xs d₀ h a₀ a i r past =
    folded_end (λ (k : ℕ). get_or xs k d₀) h (length xs) a₀ a i r past ∙ ap (λ ds. fold_from h 0 ds a₀) (list_of xs d₀)

pub dampers_same : (keys : List KeyConstants) (down up : ℕ → Bool) (R : List Float) → ((k : ℕ) → k < length keys → down k ≡ up k)
    → dampers keys down R ≡ dampers keys up R
unfolding dampers
dampers_same keys down up R h =
    fold_same (λ k key r. set r k (damped_of key (down k) (get_or r k nan))) (λ k key r. set r k (damped_of key (up k) (get_or r k nan))) 0 keys R
    (λ k key r q. ap (λ (b : Bool). set r k (damped_of key b (get_or r k nan))) (h k (omega arith)))

module _ (ds : List StringDesign) (v r : List Float) (h : length v ≡ length ds) where
  sums_front : (a : List Float) → sums_from ds (v ++ r) a ≡ sums_from ds v a
  unfolding sums_from
  sums_front a =
      fold_same (λ i d s. set s d.key (add binary64 (get_or s d.key nan) (get_or (v ++ r) i nan)))
      (λ i d s. set s d.key (add binary64 (get_or s d.key nan) (get_or v i nan))) 0 ds a
      (λ k d s q. ap (λ (x : Float). set s d.key (add binary64 (get_or s d.key nan) x)) (get_or-append v r nan k (omega (arith, h, q))))

  pub speeds_front : (yz : Float) (keys : List KeyConstants) → bridge_speeds yz keys ds (v ++ r) ≡ bridge_speeds yz keys ds v
  unfolding bridge_speeds
  speeds_front yz keys = rw (sums_front (replicate 16 +0))
