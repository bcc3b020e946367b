-- Items whose cells lie one after the other, some of them worked on together, a step of each at a turn, in as many
-- passes as it takes: no item touches another's cells, so what becomes of an item is said of its own cells alone. Any
-- number of items, of any sizes; a list of values is items of one cell.
use Rattle.std.specs.Prelude.{◌≡◌, length, take, set}
use Rattle.std.proofs.Math.Path.{refl, sym, ap}
use Rattle.std.proofs.Common.{◌∙◌, ⊎_elim, zero-add, le_trans, le_of_eq, lt_irrefl, eq-zero-or-pos, add-one, take-append-drop, drop-drop}
use Rattle.std.proofs.Common.{take-take, get_or-take, get_or-drop, get_or-set_same, get_or-set_other}
use mathlib.Core.List.{List, [], ◌∷◌, ◌++◌}
use Prim.Native.Nat.{ℕ, zero, suc, ◌+◌, ◌-◌, ◌≤◌, ◌<◌}
use Rattle.std.proofs.Math.Nat.{add-zero}
use native.Mathlib.Omega.{arith}
use Rattle.std.proofs.Math.ListN.{drop, get_or}
use Rattle.std.proofs.Math.Seq.{drop-cons}
use Rattle.std.proofs.lemmas.List.{set_split}
use Rattle.cells.specs.Splice.{part, splice, part_of_front, length_splice, take_before, part_before, part_splice, drop_past}
use Rattle.cells.specs.Parts.{total, map_parts, collect}
use Rattle.cells.specs.Numbered.{list_from, one_more}

-- Item k has the `size k` cells from cell `start k` on.
module _ {X : Type 0} (start size : ℕ → ℕ) where
  abbrev pub own : ℕ → List X → List X
  own k w = part (start k) (size k) w

  -- Item i + l of w₀ is moved on by g l, for each l below m; every other cell is as it was.
  pub record Moved (i m : ℕ) (g : ℕ → List X → List X) (w₀ w : List X) : Type 0 where
    pub same : length w ≡ length w₀
    pub before : take (start i) w ≡ take (start i) w₀
    pub each : (l : ℕ) → l < m → own (i + l) w ≡ g l (own (i + l) w₀)
    pub past : drop (start (i + m)) w ≡ drop (start (i + m)) w₀

-- lists that agree from a on agree from any later cell on, and lists that agree up to b up to any earlier
further : {X : Type 0} (a b : ℕ) (v w : List X) → a ≤ b → drop a v ≡ drop a w → drop b v ≡ drop b w
further {X} a b v w h e =
    let n : a + (b - a) ≡ b = omega arith in
    sym (ap (λ (k : ℕ). drop k v) n) ∙ sym (drop-drop (b - a) a v) ∙ ap (λ (l : List X). drop (b - a) l) e ∙ drop-drop (b - a) a w ∙ ap (λ (k : ℕ). drop k w) n

nearer : {X : Type 0} (a b : ℕ) (v w : List X) → a ≤ b → take b v ≡ take b w → take a v ≡ take a w
nearer {X} a b v w h e = sym (take-take a b v h) ∙ ap (λ (l : List X). take a l) e ∙ take-take a b w h

module _ (start size : ℕ → ℕ) (next : (k : ℕ) → start (k + 1) ≡ start k + size k) where
  rising : (k n : ℕ) → start k ≤ start (k + n)
  rising k zero = le_of_eq (ap start (sym (add-zero k)))
  rising k (suc n) =
      let e : k + suc n ≡ k + n + 1 = omega arith in
      let s : start (k + suc n) ≡ start (k + n) + size (k + n) = ap start e ∙ next (k + n) in
      let below = rising k n in
      omega (arith, s, below)

  -- items lie in their order
  pub starts_rise : (k j : ℕ) → k ≤ j → start k ≤ start j
  starts_rise k j h = let e : k + (j - k) ≡ j = omega arith in le_trans (rising k (j - k)) (le_of_eq (ap start e))

  pub ends_before : (k j : ℕ) → k < j → start k + size k ≤ start j
  ends_before k j h = le_trans (le_of_eq (sym (next k))) (starts_rise (k + 1) j (omega arith))

  module _ {X : Type 0} where
    -- none is moved on yet
    pub moved_none : (i : ℕ) (g : ℕ → List X → List X) (w : List X) → Moved start size i 0 g w w
    moved_none i g w = record { same = refl; before = refl; each = λ l h. let z : ⊥ = omega arith in absurd z; past = refl }

    -- items past those moved on have their cells still
    pub own_kept : {i m : ℕ} {g : ℕ → List X → List X} {w₀ w : List X} → Moved start size i m g w₀ w → (k : ℕ) → i + m ≤ k
        → own start size k w ≡ own start size k w₀
    own_kept {i} {m} {g} {w₀} {w} r k h = ap (λ (l : List X). take (size k) l) (further (start (i + m)) (start k) w w₀ (starts_rise (i + m) k h) r.past)

    -- so have the items before them
    own_before : (k j : ℕ) (v w : List X) → k < j → start j ≤ length v → start j ≤ length w → take (start j) v ≡ take (start j) w
        → own start size k v ≡ own start size k w
    own_before k j v w h a b e =
        let n = ends_before k j h in
        part_of_front (start k) (size k) v (omega (arith, n)) ∙ ap (λ (l : List X). drop (start k) l) (nearer (start k + size k) (start j) v w n e)
        ∙ sym (part_of_front (start k) (size k) w (omega (arith, n)))

    -- one more is: its own cells come back as g says
    pub moved_turn : {i m : ℕ} {g : ℕ → List X → List X} {w₀ w : List X} → Moved start size i m g w₀ w → (y w' : List X)
        → start (i + m) + size (i + m) ≤ length w → length y ≡ size (i + m) → y ≡ g m (own start size (i + m) w)
        → w' ≡ splice (start (i + m)) (size (i + m)) y w → Moved start size i (m + 1) g w₀ w'
    moved_turn {i} {m} {g} {w₀} {w} r y w' fits hy hg hw =
        let a = start (i + m) in
        let k = size (i + m) in
        let later : start (i + (m + 1)) ≡ start (i + m) + size (i + m) = let e : i + (m + 1) ≡ i + m + 1 = omega arith in ap start e ∙ next (i + m) in
        let first = starts_rise i (i + m) (omega arith) in
        record {
          same = ap length hw ∙ length_splice a k (a + k) y w refl hy fits ∙ r.same;
          before = ap (λ (l : List X). take (start i) l) hw ∙ take_before a k (a + k) y w refl hy fits (start i) first ∙ r.before;
          each = λ l h. one_more l m h
              (λ e. rw e (ap (λ (v : List X). part a k v) hw ∙ part_splice a k (a + k) y w refl hy fits ∙ hg ∙ ap (g m) (own_kept r (i + m) (omega arith))))
              (λ q. ap (λ (v : List X). own start size (i + l) v) hw
              ∙ part_before a k (a + k) y w refl hy fits (start (i + l)) (size (i + l)) (ends_before (i + l) (i + m) (omega arith)) ∙ r.each l q);
          past = ap (λ (l : List X). drop (start (i + (m + 1))) l) hw ∙ drop_past a k (a + k) y w refl hy fits (start (i + (m + 1))) (omega (arith, later))
              ∙ further (start (i + m)) (start (i + (m + 1))) w w₀ (omega (arith, later)) r.past;
        }

    -- two passes over the same items are one
    pub moved_after : {i m : ℕ} {f g : ℕ → List X → List X} {w₀ w₁ w₂ : List X} → Moved start size i m f w₀ w₁ → Moved start size i m g w₁ w₂
        → (h : ℕ → List X → List X) → ((l : ℕ) → l < m → g l (f l (own start size (i + l) w₀)) ≡ h l (own start size (i + l) w₀)) → Moved start size i m h w₀ w₂
    moved_after {i} {m} {f} {g} r s h e = record {
      same = s.same ∙ r.same;
      before = s.before ∙ r.before;
      each = λ l q. s.each l q ∙ ap (g l) (r.each l q) ∙ e l q;
      past = s.past ∙ r.past;
    }

    -- the same by another name
    pub moved_as : {i m : ℕ} {f : ℕ → List X → List X} {w₀ w : List X} → Moved start size i m f w₀ w → (h : ℕ → List X → List X)
        → ((l : ℕ) → l < m → f l (own start size (i + l) w₀) ≡ h l (own start size (i + l) w₀)) → Moved start size i m h w₀ w
    moved_as r h e = record { same = r.same; before = r.before; each = λ l q. r.each l q ∙ e l q; past = r.past }

    -- the first i items, and then the next m
    pub moved_on : {i m : ℕ} {f g : ℕ → List X → List X} {w₀ w₁ w₂ : List X} → Moved start size 0 i g w₀ w₁ → Moved start size i m f w₁ w₂
        → ((l : ℕ) (p : List X) → f l p ≡ g (i + l) p) → start (i + m) ≤ length w₀ → Moved start size 0 (i + m) g w₀ w₂
    moved_on {i} {m} {f} {g} {w₀} {w₁} {w₂} r s e fits =
        let here : start i ≤ length w₁ = le_trans (starts_rise i (i + m) (omega arith)) (le_trans fits (le_of_eq (sym r.same))) in
        let there : start i ≤ length w₂ = le_trans here (le_of_eq (sym s.same)) in
        let z : 0 + (i + m) ≡ i + m = zero-add (i + m) in
        let upto : start (0 + i) ≤ start (i + m) = le_trans (le_of_eq (ap start (zero-add i))) (starts_rise i (i + m) (omega arith)) in
        record {
          same = s.same ∙ r.same;
          before = nearer (start 0) (start i) w₂ w₁ (starts_rise 0 i (omega arith)) s.before ∙ r.before;
          each = λ k q. rw (zero-add k)
              (⊎_elim
              (λ c. own_before k i w₂ w₁ (omega (arith, c)) there here s.before ∙ rw (zero-add k) at (r.each k (omega (arith, c))))
              (λ c. later k q (omega (arith, c)))
              (eq-zero-or-pos (suc k - i)));
          past = rw z (s.past ∙ further (start (0 + i)) (start (i + m)) w₁ w₀ upto r.past);
        }
      where
        later : (k : ℕ) → k < i + m → i ≤ k → own start size k w₂ ≡ g k (own start size k w₀)
        later k q h =
            let n : i + (k - i) ≡ k = omega arith in
            let u : own start size (i + (k - i)) w₂ ≡ f (k - i) (own start size (i + (k - i)) w₁) = s.each (k - i) (omega arith) in
            let v : own start size k w₁ ≡ own start size k w₀ = own_kept r k (omega arith) in
            rw n at (u ∙ e (k - i) (own start size (i + (k - i)) w₁)) ∙ ap (g k) v

-- ---- items of a list, found by their number

module _ {D : Type 0} (sz : D → ℕ) (f : ℕ → D) where
  total_next : (i n : ℕ) → total sz (list_from f i (suc n)) ≡ total sz (list_from f i n) + sz (f (i + n))
  unfolding total list_from
  total_next i zero = ap (λ (k : ℕ). sz (f k) + 0) (sym (add-zero i)) ∙ add-zero (sz (f (i + 0))) ∙ sym (zero-add (sz (f (i + 0))))
  total_next i (suc n) =
      let e : i + 1 + n ≡ i + suc n = omega arith in
      let r : total sz (list_from f (i + 1) (suc n)) ≡ total sz (list_from f (i + 1) n) + sz (f (i + suc n)) =
      total_next (i + 1) n ∙ ap (λ (k : ℕ). total sz (list_from f (i + 1) n) + sz (f k)) e in
      omega (arith, r)

  -- where item k starts, and its size
  abbrev pub start_in : ℕ → ℕ
  start_in k = total sz (list_from f 0 k)

  abbrev pub size_in : ℕ → ℕ
  size_in k = sz (f k)

  pub start_next : (k : ℕ) → start_in (k + 1) ≡ start_in k + size_in k
  start_next k = ap (λ (n : ℕ). start_in n) (add-one k) ∙ total_next 0 k ∙ ap (λ (n : ℕ). start_in k + sz (f n)) (zero-add k)

  module _ {X : Type 0} where
    after : (i : ℕ) (w : List X) → drop (sz (f i)) (drop (start_in i) w) ≡ drop (start_in (i + 1)) w
    after i w = drop-drop (sz (f i)) (start_in i) w ∙ ap (λ (k : ℕ). drop k w) (sym (start_next i))

    -- what each item gives of its own cells
    collected : {Y : Type 0} (x : ℕ → D → List X → Y) (w : List X) (i n : ℕ)
        → collect sz x i (list_from f i n) (drop (start_in i) w) ≡ list_from (λ k. x k (f k) (own start_in size_in k w)) i n
    unfolding collect list_from
    collected x w i zero = refl
    collected {Y} x w i (suc n) =
        ap (λ (l : List Y). x i (f i) (own start_in size_in i w) ∷ l)
        (ap (λ (l : List X). collect sz x (i + 1) (list_from f (i + 1) n) l) (after i w) ∙ collected x w (i + 1) n)

    pub collect_own : {Y : Type 0} (x : ℕ → D → List X → Y) (w : List X) (n : ℕ)
        → collect sz x 0 (list_from f 0 n) w ≡ list_from (λ k. x k (f k) (own start_in size_in k w)) 0 n
    unfolding list_from total
    collect_own x w n = collected x w 0 n

    -- all items moved on
    module _ (g : ℕ → D → List X → List X) (w₀ w : List X) (n : ℕ) (r : Moved start_in size_in 0 n (λ k p. g k (f k) p) w₀ w) where
      mapped : (i c : ℕ) → i + c ≡ n → drop (start_in i) w ≡ map_parts sz g i (list_from f i c) (drop (start_in i) w₀)
      unfolding map_parts list_from
      mapped i zero h = let e : 0 + n ≡ i = omega arith in rw e at r.past
      mapped i (suc c) h =
          let here : own start_in size_in i w ≡ g i (f i) (own start_in size_in i w₀) = rw (zero-add i) at (r.each i (omega arith)) in
          sym (take-append-drop (sz (f i)) (drop (start_in i) w))
          ∙ ap (λ (l : List X). l ++ drop (sz (f i)) (drop (start_in i) w)) here
          ∙ ap (λ (l : List X). g i (f i) (own start_in size_in i w₀) ++ l)
          (after i w ∙ mapped (i + 1) c (omega arith) ∙ ap (λ (l : List X). map_parts sz g (i + 1) (list_from f (i + 1) c) l) (sym (after i w₀)))

      pub moved_all : w ≡ map_parts sz g 0 (list_from f 0 n) w₀
      unfolding list_from total
      moved_all = mapped 0 n (zero-add n)

-- ---- values, one a cell

module _ {Y : Type 0} (y₀ : Y) where
  -- value i + l of v₀ gives way to x l, for each l below m
  abbrev pub Stored : ℕ → ℕ → (ℕ → Y) → List Y → List Y → Type 0
  Stored i m x v₀ v = Moved (λ k. k) (λ k. 1) i m (λ l p. x l ∷ []) v₀ v

  value : (k : ℕ) (v : List Y) → get_or (part k 1 v) 0 y₀ ≡ get_or v k y₀
  value k v = get_or-take 1 (drop k v) 0 y₀ (omega arith) ∙ get_or-drop k v 0 y₀ ∙ ap (λ (n : ℕ). get_or v n y₀) (add-zero k)

  -- value i + l is x l
  pub stored_at : {i m : ℕ} {x : ℕ → Y} {v₀ v : List Y} → Stored i m x v₀ v → (l : ℕ) → l < m → get_or v (i + l) y₀ ≡ x l
  stored_at {i} {v = v} r l h = sym (value (i + l) v) ∙ ap (λ (p : List Y). get_or p 0 y₀) (r.each l h)

  -- one more store
  pub stored_turn : {i m : ℕ} {x : ℕ → Y} {v₀ v : List Y} → Stored i m x v₀ v → i + m < length v → (y : Y) → y ≡ x m → Stored i (m + 1) x v₀ (set v (i + m) y)
  stored_turn {i} {m} {v = v} r h y e =
      moved_turn (λ j. j) (λ j. 1) (λ j. refl) r (y ∷ []) (set v (i + m) y) (omega arith) refl (ap (λ z. z ∷ []) e)
      (set_split v (i + m) y h ∙ ap (λ (l : List Y). take (i + m) v ++ (y ∷ l)) (sym (drop-drop 1 (i + m) v ∙ ap (λ (n : ℕ). drop n v) (add-one (i + m)))))

  pub stored_as : {i m : ℕ} {x : ℕ → Y} {v₀ v : List Y} → Stored i m x v₀ v → (y : ℕ → Y) → ((l : ℕ) → l < m → x l ≡ y l) → Stored i m y v₀ v
  stored_as r y e = moved_as (λ j. j) (λ j. 1) (λ j. refl) r (λ l p. y l ∷ []) (λ l h. ap (λ z. z ∷ []) (e l h))

  -- all values: the stored ones, then those that stayed
  pub stored_all : (x : ℕ → Y) (v₀ v : List Y) (n : ℕ) → Stored 0 n x v₀ v → n ≤ length v₀ → v ≡ list_from x 0 n ++ drop n v₀
  unfolding list_from
  stored_all x v₀ v n r h = from 0 n (zero-add n)
    where
      from : (i c : ℕ) → i + c ≡ n → drop i v ≡ list_from x i c ++ drop n v₀
      from i zero e = let z : 0 + n ≡ i = omega arith in let q : n ≡ i = omega arith in rw z at r.past ∙ ap (λ (k : ℕ). drop k v₀) (sym q)
      from i (suc c) e =
          let here : get_or v i y₀ ≡ x i = rw (zero-add i) at (stored_at r i (omega arith)) in
          drop-cons v i y₀ (omega (arith, r.same)) ∙ ap (λ y. y ∷ drop (suc i) v) here
          ∙ ap (λ (l : List Y). x i ∷ l) (ap (λ (k : ℕ). drop k v) (sym (add-one i)) ∙ from (i + 1) c (omega arith))

  -- An array filled from its front: values below m are x's, and the others as they were, before the store at m and after it.
  pub front_next : (v : List Y) (m : ℕ) (x : ℕ → Y) → m < length v → ((l : ℕ) → l < m → get_or v l y₀ ≡ x l) → (y : Y) → y ≡ x m
      → (l : ℕ) → l < m + 1 → get_or (set v m y) l y₀ ≡ x l
  front_next v m x h below y e l q =
      one_more l m q (λ c. rw c (get_or-set_same v m y y₀ h ∙ e)) (λ c. get_or-set_other v m l y y₀ (λ z. lt_irrefl m (rw z at c)) ∙ below l c)

  pub back_next : (v v₀ : List Y) (m : ℕ) → ((l : ℕ) → m ≤ l → get_or v l y₀ ≡ get_or v₀ l y₀) → (y : Y)
      → (l : ℕ) → m + 1 ≤ l → get_or (set v m y) l y₀ ≡ get_or v₀ l y₀
  back_next v v₀ m above y l q = get_or-set_other v m l y y₀ (λ z. omega arith) ∙ above l (omega arith)
