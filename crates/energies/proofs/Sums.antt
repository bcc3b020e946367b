-- The loops turn by turn: a line's sum over its cells, all keys' sums in one walk over the strings, and the pairs in place. Assumes nothing.
use mathlib.Core.Path.{◌≡◌, refl, sym, ap, ◌∙◌}
use mathlib.Core.Bool.{Bool, true, false}
use mathlib.Core.List.{List, [], ◌∷◌, ◌++◌, map}
use Prim.Native.Nat.{ℕ, ◌+◌, ◌-◌, ◌<◌}
use native.Mathlib.Omega.{arith}
use lib.Dec.{eqb}
use lib.ListN.{length, take, drop, get_or, set, replicate, length-set, length-replicate, get_or-replicate}
use lib.Seq.{get_or-set_same, get_or-set_other}
use borrow.Author.Tests.{eqb-true, eqb-false}
use lib.Ieee.{Float, nan, binary64, add}
use Rattle.float.specs.Float.{zero as +0}
use Rattle.cells.specs.Splice.{splice_same}
use Rattle.cells.specs.Fold.{fold_parts}
use Rattle.string.specs.declared.StringDesign.{StringDesign}
use Rattle.string.specs.String.{size_of}
use Rattle.string.specs.Table.{design_at}
use Rattle.strings.specs.Walk.{WalkAt, at_turn}
use Rattle.counting.specs.Below.{pad, tabulate}
use Rattle.counting.specs.Laws.{length_tabulate, tabulate_more, pad_set}
use Rattle.energies.specs.declared.KeyEnergy.{KeyEnergy}
use Rattle.energies.specs.Energy.{sum_from, square, string_energy, kept_if, of_key, no_energy}
use Rattle.energies.specs.Steps.{summed_into, sums_after}

-- ---- a line

-- one cell more
pub line_more : (a : Float) (l : List Float) (v : Float) → sum_from a (map square (l ++ (v ∷ []))) ≡ add binary64 (sum_from a (map square l)) (square v)
unfolding sum_from
line_more a [] v = refl
line_more a (x ∷ l) v = line_more (add binary64 a (square x)) l v

-- ---- the strings

-- the walk leaves each string's cells as they are
abbrev pub kept : ℕ → StringDesign → List Float → List Float
kept i d p = p

-- a turn of it, which carries b on
pub turn_kept : {designs : List StringDesign} {w₀ a₀ w a : List Float} {at i : ℕ} → WalkAt kept summed_into designs w₀ a₀ w a at i → i < length designs
    → (k : ℕ) (b : List Float) → k ≡ size_of (design_at designs i)
    → b ≡ summed_into i (design_at designs i) (take (at + k - at) (drop at w)) a → WalkAt kept summed_into designs w₀ a₀ w b (at + k) (i + 1)
turn_kept {w = w} {at = at} r hi k b hk hb =
    rw (splice_same at (at + k - at) w) at (at_turn r hi k (take (at + k - at) (drop at w)) b hk (λ p e. e) refl hb)

-- What the walk leaves in place k is key k's sum, begun from what was there.
module _ (k : ℕ) where
  one_added : (b : Bool) (sums : List Float) (d : StringDesign) (e : Float) (rest : List Float) → eqb d.key k ≡ b → k < length sums
      → sum_from (get_or (set sums d.key (add binary64 (get_or sums d.key nan) e)) k nan) rest ≡ sum_from (get_or sums k nan) (kept_if b e ++ rest)
  unfolding sum_from
  one_added true sums d e rest h l =
      let same = eqb-true d.key k h in
      rw same (ap (λ (a : Float). sum_from a rest) (get_or-set_same sums k (add binary64 (get_or sums k nan) e) nan l))
  one_added false sums d e rest h l =
      ap (λ (a : Float). sum_from a rest) (get_or-set_other sums d.key k (add binary64 (get_or sums d.key nan) e) nan (λ q. eqb-false d.key k h (sym q)))

  key_sum_from : (i : ℕ) (ds : List StringDesign) (cells sums : List Float) → k < length sums
      → get_or (fold_parts size_of summed_into i ds cells sums) k nan ≡ sum_from (get_or sums k nan) (of_key k ds cells)
  unfolding fold_parts of_key sum_from
  key_sum_from i [] cells sums h = refl
  key_sum_from i (d ∷ ds) cells sums h =
      let e = string_energy d (take (size_of d) cells) in
      let next = summed_into i d (take (size_of d) cells) sums in
      key_sum_from (i + 1) ds (drop (size_of d) cells) next (rw (length-set sums d.key (add binary64 (get_or sums d.key nan) e)) h)
      ∙ one_added (eqb d.key k) sums d e (of_key k ds (drop (size_of d) cells)) refl h

  pub key_sum : (ds : List StringDesign) (cells : List Float) → k < 16 → get_or (sums_after ds cells (replicate 16 +0)) k nan ≡ sum_from +0 (of_key k ds cells)
  unfolding sums_after
  key_sum ds cells h =
      key_sum_from 0 ds cells (replicate 16 +0) (rw (length-replicate 16 +0) h)
      ∙ ap (λ (a : Float). sum_from a (of_key k ds cells)) (get_or-replicate 16 k +0 nan h)

-- ---- the pairs

pub pairs_start : (g : ℕ → KeyEnergy) (x : KeyEnergy) → x ≡ no_energy → replicate 16 x ≡ pad 16 no_energy (tabulate 0 g)
unfolding pad tabulate
pairs_start g x e = ap (λ (y : KeyEnergy). replicate 16 y) e

-- one pair more
pub pairs_more : (g : ℕ → KeyEnergy) (pairs : List KeyEnergy) (k : ℕ) → k < 16 → pairs ≡ pad 16 no_energy (tabulate k g)
    → set pairs k (g k) ≡ pad 16 no_energy (tabulate (k + 1) g)
pairs_more g pairs k h e =
    let n = length_tabulate k g in
    ap (λ (l : List KeyEnergy). set l k (g k)) e
    ∙ ap (λ (m : ℕ). set (pad 16 no_energy (tabulate k g)) m (g k)) (sym n)
    ∙ pad_set 16 no_energy (tabulate k g) (g k) (omega (arith, n))
    ∙ ap (pad 16 no_energy) (sym (tabulate_more k g))
