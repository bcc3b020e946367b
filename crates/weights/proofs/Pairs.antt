-- The definitions as the code has them: a place as an answer, a test of each key, and the pairs one after the other. Assumes nothing.
use mathlib.Core.Path.{◌≡◌, refl, sym, ap, ◌∙◌}
use mathlib.Core.Bool.{Bool, true, false, cond, ◌&&◌}
use mathlib.Core.List.{List, [], ◌∷◌}
use Prim.Native.Nat.{ℕ, ◌≤◌, ◌<◌}
use native.Mathlib.Omega.{arith}
use lib.Dec.{eqb}
use lib.ListN.{length}
use lib.Ieee.{Float}
use borrow.Author.Tests.{le-leb, lt-leb}
use Rattle.std.specs.Prelude.{Option, Some, None, fold}
use Rattle.std.specs.List.{zip, list_all}
use lib.Seq.{take-length}
use Rattle.std.proofs.lemmas.Option.{none-some}
use Rattle.std.specs.Option.{unwrap_or}
use Rattle.instrument.specs.declared.Instrument.{Instrument}
use Rattle.instrument.specs.KeyIndex.{key_place}
use Rattle.instrument.proofs.Lists.{all_first}
use Rattle.weights.specs.Weights.{index_of, has_key, weighted, weighted_by, whole_pairs}

module _ (i : Instrument) (key : ℕ) where
  abbrev placed : Option ℕ
  placed = cond (has_key i key) (Some (index_of i key)) None

  pub many_keys : 16 < i.key_count → None ≡ placed
  unfolding has_key
  many_keys h = rw (lt-leb i.key_count 16 h)

  pub few_keys : i.key_count ≤ 16 → key_place i key ≡ placed
  unfolding has_key
  few_keys h = rw (le-leb i.key_count 16 h)

  -- a place that was found
  pub found : (at : ℕ) → placed ≡ Some at → (has_key i key ≡ true) × (at ≡ index_of i key)
  found at = go (has_key i key)
    where
      go : (t : Bool) → cond t (Some (index_of i key)) None ≡ Some at → (t ≡ true) × (at ≡ index_of i key)
      go true e = (refl, sym (ap (λ o. unwrap_or o 0) e))
      go false e = absurd (none-some at e)

  pub not_found : placed ≡ None → has_key i key ≡ false
  not_found = go (has_key i key)
    where
      go : (t : Bool) → cond t (Some (index_of i key)) None ≡ None → t ≡ false
      go true e = absurd (none-some (index_of i key) (sym e))
      go false e = refl

pub whole_is : (i : Instrument) (keys : List ℕ) (weights : List Float)
    → (eqb (length keys) (length weights) && list_all (has_key i) keys) ≡ whole_pairs i keys weights
unfolding whole_pairs
whole_is i keys weights =
    ap (λ (t : Bool). eqb (length keys) (length weights) && t) (ap (list_all (has_key i)) (sym (take-length keys)) ∙ all_first 0 (has_key i) keys (length keys) (omega arith))

pub by_pairs : (i : Instrument) (keys : List ℕ) (weights : List Float)
    → fold (λ (x : Instrument) (p : ℕ × Float). weighted x p.0 p.1) i (zip keys weights) ≡ weighted_by i keys weights
unfolding weighted_by
by_pairs i [] ws = refl
by_pairs i (key ∷ keys) [] = refl
by_pairs i (key ∷ keys) (w ∷ ws) = by_pairs (weighted i key w) keys ws
