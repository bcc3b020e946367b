-- Loops over a slice. What is done below i together with what is still to do from i is the whole run: so at the start, after each turn and at the end.
-- Assumes nothing.
use Rattle.std.proofs.Common.{◌≡◌, ℕ, ◌+◌, ◌<◌, ◌≤◌, List, ◌∷◌, ◌++◌, map, length, get_or, take, drop, set, refl, ◌∙◌, append-nil, add-one, arith, length-set, drop_of_length-le, take_all, drop-cons, take-suc-set, drop-set-lt}
use lib.Seq.{append_snoc}
use lib.Ieee.{Float, nan, binary64, add, sub}
use Rattle.root.specs.Root.{root_of}
use Rattle.filter.specs.Filter.{row_out, row_cells}
use Rattle.exports.specs.Runs.{root_chain, row_outs, cells_after}

-- ---- one element put in its place

-- below i + 1 stands what stood below i, and the new element
placed : (l rest : List Float) (i : ℕ) (y : Float) → i < length l → take (i + 1) (set l i y) ++ rest ≡ take i l ++ y ∷ rest
placed l rest i y h = rw (add-one, take-suc-set) (append_snoc (take i l) y rest)

-- from i + 1 on nothing changes
beyond : (l : List Float) (i : ℕ) (y : Float) → drop (i + 1) (set l i y) ≡ drop (i + 1) l
beyond l i y = drop-set-lt (i + 1) l i y (omega arith)

-- from i on stand the element at i and what follows it
at : (l : List Float) (i : ℕ) → i < length l → drop i l ≡ get_or l i nan ∷ drop (i + 1) l
at l i h = rw (add-one, drop-cons l i nan)

-- ---- f on every element

pub record Swept (f : Float → Float) (l₀ l : List Float) (i : ℕ) : Type 0 where
  pub size : length l ≡ length l₀
  pub whole : take i l ++ map f (drop i l) ≡ map f l₀

module _ {f : Float → Float} where
  pub swept_start : (l : List Float) → Swept f l l 0
  swept_start l = record { size = refl; whole = refl }

  pub swept_turn : {l₀ l : List Float} {i : ℕ} {y : Float} → Swept f l₀ l i → i < length l → y ≡ f (get_or l i nan) → Swept f l₀ (set l i y) (i + 1)
  swept_turn {l₀} {l} {i} {y} s h e =
      record {
        size = simp length-set s.size;
        whole = placed l (map f (drop (i + 1) (set l i y))) i y h ∙ rw (beyond l i y, e) (rw (at l i h) at s.whole);
      }

  pub swept_end : {l₀ l : List Float} {i : ℕ} → Swept f l₀ l i → length l ≤ i → l ≡ map f l₀
  swept_end {l₀} {l} {i} s h = rw (take_all, drop_of_length-le, append-nil) at s.whole

-- ---- a chain

pub record Chained (l : List Float) (v : Float) (i : ℕ) (v₀ : Float) : Type 0 where
  pub whole : root_chain v (drop i l) ≡ root_chain v₀ l

pub chained_turn : {l : List Float} {v v₀ r : Float} {i : ℕ} → Chained l v i v₀ → i < length l
    → r ≡ root_of (add binary64 (get_or l i nan) (sub binary64 v v)) → Chained l r (i + 1) v₀
unfolding root_chain
chained_turn {l} {v} {v₀} {r} {i} s h e = record { whole = rw e (rw (at l i h) at s.whole) }

pub chained_end : {l : List Float} {v v₀ : Float} {i : ℕ} → Chained l v i v₀ → length l ≤ i → v ≡ root_chain v₀ l
unfolding root_chain
chained_end {l} {v} {v₀} {i} s h = rw drop_of_length-le at s.whole

-- ---- the row over a block

pub record Ran (a : Float) (c₀ b₀ c b : List Float) (i : ℕ) : Type 0 where
  pub kept : length c ≡ length c₀
  pub size : length b ≡ length b₀
  pub outs : take i b ++ row_outs a c (drop i b) ≡ row_outs a c₀ b₀
  pub cells : cells_after a c (drop i b) ≡ cells_after a c₀ b₀

module _ {a : Float} where
  pub ran_start : (c b : List Float) → Ran a c b c b 0
  ran_start c b = record { kept = refl; size = refl; outs = refl; cells = refl }

  pub ran_turn : {c₀ b₀ c b d : List Float} {i : ℕ} {y : Float} → Ran a c₀ b₀ c b i → i < length b → length d ≡ length c → y ≡ row_out a c (get_or b i nan)
      → d ≡ row_cells a c (get_or b i nan) → Ran a c₀ b₀ d (set b i y) (i + 1)
  unfolding row_outs cells_after
  ran_turn {c₀} {b₀} {c} {b} {d} {i} {y} s h k e g =
      record {
        kept = k ∙ s.kept;
        size = simp length-set s.size;
        outs =
            placed b (row_outs a d (drop (i + 1) (set b i y))) i y h
            ∙ rw (beyond b i y, e, g) (rw (at b i h) at s.outs);
        cells = rw (beyond b i y, g) (rw (at b i h) at s.cells);
      }

  pub ran_end : {c₀ b₀ c b : List Float} {i : ℕ} → Ran a c₀ b₀ c b i → length b ≤ i → (b ≡ row_outs a c₀ b₀) × (c ≡ cells_after a c₀ b₀)
  unfolding row_outs cells_after
  ran_end {c₀} {b₀} {c} {b} {i} s h = (rw (take_all, drop_of_length-le, append-nil) at s.outs, rw drop_of_length-le at s.cells)
