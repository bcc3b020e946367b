-- The later events copied up or down by one, and the score with an event placed or removed. Assumes nothing.
use mathlib.Core.Path.{◌≡◌, refl, sym, ◌∙◌, ap}
use mathlib.Core.Bool.{Bool, true, false, cond}
use mathlib.Core.List.{List, [], ◌∷◌, ◌++◌}
use Prim.Native.Nat.{ℕ, zero, suc, ◌+◌, ◌-◌, ◌<◌, ◌≤◌}
use native.Mathlib.Omega.{arith}
use native.Mathlib.Nat.{add-sub_of_le}
use native.Mathlib.Numerals.{add-one}
use lib.ListN.{length, take, drop, set, length-drop}
use lib.Seq.{length-take-le, take-suc-set, take-take, take-add, drop_at, drop-set-lt, append_snoc}
use borrow.Rule.Slice.PartMut.{put_mid}
use Rattle.std.proofs.lemmas.List.{take_all}
use Rattle.std.proofs.lemmas.Slice.{put_mid-paste}
use Rattle.score.specs.declared.TimedEvent.{TimedEvent}
use Rattle.score_edits.specs.Edits.{may_precede, placed, place_of, removed}

placed_if : (b : Bool) (x e : TimedEvent) (xs : List TimedEvent) (k : ℕ)
    → cond b (x ∷ take k xs ++ e ∷ drop k xs) (e ∷ x ∷ xs) ≡ take (cond b (suc k) 0) (x ∷ xs) ++ e ∷ drop (cond b (suc k) 0) (x ∷ xs)
placed_if true x e xs k = refl
placed_if false x e xs k = refl

placed_split : (l : List TimedEvent) (e : TimedEvent) → placed l e ≡ take (place_of l e) l ++ e ∷ drop (place_of l e) l
unfolding placed place_of
placed_split [] e = refl
placed_split (x ∷ xs) e = rw (placed_split xs e) (placed_if (may_precede x e) x e xs (place_of xs e))

removed_split : (l : List TimedEvent) (k : ℕ) → k < length l → removed l k ≡ take k l ++ drop (suc k) l
unfolding removed
removed_split [] k h = absurd (omega arith)
removed_split (x ∷ xs) zero h = refl
removed_split (x ∷ xs) (suc k) h = ap (λ y. x ∷ y) (removed_split xs k (omega arith))

drop_take : (l : List TimedEvent) (k n : ℕ) → k ≤ n → n ≤ length l → drop k (take n l) ≡ take (n - k) (drop k l)
drop_take l k n h g =
    let e : k + (n - k) ≡ n = add-sub_of_le h in
    ap (λ m. drop k (take m l)) (sym e) ∙ ap (drop k) (take-add k (n - k) l)
    ∙ drop_at (take k l) (take (n - k) (drop k l)) k (length-take-le k l (omega arith))

-- the later events of the first n copied up by one, behind an event put at its place
pub event_placed : (l : List TimedEvent) (n k : ℕ) (e : TimedEvent) (later : List TimedEvent) → length l ≡ 64 → n < 64 → k ≤ n → k ≡ place_of (take n l) e
    → later ≡ take (n - k) (drop k l) → put_mid (k + 1) (n + 1 - (k + 1)) (set l k e) later ≡ placed (take n l) e ++ drop (n + 1) l
event_placed l n k e later fits few low p q =
    let a : k + 1 + (n - k) ≡ n + 1 = omega arith in
    let long : n - k ≡ length (drop k (take n l)) = omega (arith, length-drop k (take n l), length-take-le n l (omega arith)) in
    let b : take (k + 1) (set l k e) ≡ take k l ++ (e ∷ []) = rw add-one (take-suc-set l k e (omega arith)) in
    let c : take (n - k) (drop k (take n l)) ≡ drop k (take n l) = take_all (n - k) (drop k (take n l)) (omega (arith, long)) in
    let d : drop (k + 1 + (n - k)) (set l k e) ≡ drop (n + 1) l = ap (λ m. drop m (set l k e)) a ∙ drop-set-lt (n + 1) l k e (omega arith) in
    let f : take k l ++ e ∷ drop k (take n l) ≡ placed (take n l) e =
    ap (λ x. x ++ e ∷ drop k (take n l)) (sym (take-take k n l low)) ∙ ap (λ x. take x (take n l) ++ e ∷ drop x (take n l)) p
    ∙ sym (placed_split (take n l) e) in
    put_mid-paste (k + 1) (n + 1 - (k + 1)) (set l k e) later (drop k (take n l)) (n - k) (q ∙ sym (drop_take l k n low (omega arith))) (omega arith) long
    ∙ rw (b, c, d) (ap (λ x. x ++ drop (n + 1) l) (append_snoc (take k l) e (drop k (take n l)) ∙ f))

-- the later events of the first n copied down by one, over the event at place k
pub event_removed : (l : List TimedEvent) (n k : ℕ) (later : List TimedEvent) → length l ≡ 64 → n ≤ 64 → k < n
    → later ≡ take (n - (k + 1)) (drop (k + 1) l) → put_mid k (n - 1 - k) l later ≡ removed (take n l) k ++ drop (n - 1) l
event_removed l n k later fits few low q =
    let a : k + (n - (k + 1)) ≡ n - 1 = omega arith in
    let rest = drop (k + 1) (take n l) in
    let long : n - (k + 1) ≡ length rest = omega (arith, length-drop (k + 1) (take n l), length-take-le n l (omega arith)) in
    let b : take (n - (k + 1)) rest ≡ rest = take_all (n - (k + 1)) rest (omega (arith, long)) in
    let c : take k l ++ rest ≡ removed (take n l) k =
    ap (λ x. x ++ rest) (sym (take-take k n l (omega arith))) ∙ ap (λ m. take k (take n l) ++ drop m (take n l)) (add-one k)
    ∙ sym (removed_split (take n l) k (omega (arith, length-take-le n l (omega arith)))) in
    put_mid-paste k (n - 1 - k) l later rest (n - (k + 1)) (q ∙ sym (drop_take l (k + 1) n (omega arith) (omega arith))) (omega arith) long
    ∙ rw (b, a) (ap (λ x. x ++ drop (n - 1) l) c)
