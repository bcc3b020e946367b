-- Laws of sets of positions: what is asked of a set does not depend on the order of its list. Assumes nothing.
use Rattle.std.specs.Prelude.{◌≡◌, refl, Bool, true, false, cond, not, ◌&&◌, ◌⊎◌, List, [], ◌∷◌, ℕ, suc, ◌+◌, ◌≤◌, max, eqb, leb, ltb, length}
use Rattle.std.proofs.Common.{sym, ◌∙◌, ap, inl, inr, ⊎_elim, arith, lt-ltb, le-ltb, le-leb, eq-eqb, ltb-false, leb-true, leb-false, eqb-true}
use Rattle.std.proofs.lemmas.Bool.{not-true}
use Rattle.positions.specs.Positions.{count, is_in, others, up_to, greatest, distinct, Same}

-- ---- tests

pub and_true : (a b : Bool) → (a && b) ≡ true → (a ≡ true) × (b ≡ true)
and_true true b e = (refl, e)
and_true false true e = (e, refl)
and_true false false e = (e, e)

pub and_both : (a b : Bool) → a ≡ true → b ≡ true → (a && b) ≡ true
and_both a b e f = rw (e, f)

pub true_or_false : {A : Type 0} (b : Bool) → b ≡ true → b ≡ false → A
true_or_false b e f = absurd (let z : ◌≡◌ {A = ℕ} 0 1 = cc in omega arith)

-- ---- counting

-- one member more
count_cons : (f : ℕ → Bool) (x : ℕ) (l : List ℕ) → count f (x ∷ l) ≡ cond (f x) (suc (count f l)) (count f l)
unfolding count
count_cons f x l = refl

-- a member that is there or not
pub count_if : (f : ℕ → Bool) (b : Bool) (x : ℕ) (l : List ℕ) → count f (cond b (x ∷ l) l) ≡ count f (cond b (x ∷ []) []) + count f l
unfolding count
count_if f true x l = go (f x)
  where
    go : (c : Bool) → cond c (suc (count f l)) (count f l) ≡ cond c 1 0 + count f l
    go true = omega arith
    go false = omega arith
count_if f false x l = omega arith

-- two members in the other order
pub count_swap : (f : ℕ → Bool) (b : Bool) (x y : ℕ) (k l : List ℕ) → count f k ≡ count f (y ∷ l) → count f (cond b (x ∷ k) k) ≡ count f (y ∷ cond b (x ∷ l) l)
unfolding count
count_swap f true x y k l e = rw e (swapped (f x) (f y) (count f l))
  where
    swapped : (b c : Bool) (n : ℕ) → cond b (suc (cond c (suc n) n)) (cond c (suc n) n) ≡ cond c (suc (cond b (suc n) n)) (cond b (suc n) n)
    swapped true true n = refl
    swapped true false n = refl
    swapped false true n = refl
    swapped false false n = refl
count_swap f false x y k l e = e

-- of every member, it is x or it is not
pub count_others : (x : ℕ) (l : List ℕ) → count (eqb x) l + others x l ≡ length l
unfolding count
count_others x [] = refl
count_others x (y ∷ ys) = go (eqb x y) (count_others x ys)
  where
    go : (b : Bool) → count (eqb x) ys + others x ys ≡ length ys
        → cond b (suc (count (eqb x) ys)) (count (eqb x) ys) + cond (not b) (suc (others x ys)) (others x ys) ≡ suc (length ys)
    go true e = omega arith
    go false e = omega arith

-- ---- membership

pub in_front : (x : ℕ) (l : List ℕ) → is_in x (x ∷ l) ≡ true
in_front x l = rw (count_cons (eqb x) x l, eq-eqb x x refl) (lt-ltb 0 (suc (count (eqb x) l)) (omega arith))

pub in_cons : (y x : ℕ) (l : List ℕ) → is_in y l ≡ true → is_in y (x ∷ l) ≡ true
in_cons y x l e = rw (count_cons (eqb y) x l) (go (eqb y x))
  where
    go : (b : Bool) → ltb 0 (cond b (suc (count (eqb y) l)) (count (eqb y) l)) ≡ true
    go true = lt-ltb 0 (suc (count (eqb y) l)) (omega arith)
    go false = e

pub in_cases : (y x : ℕ) (l : List ℕ) → is_in y (x ∷ l) ≡ true → (y ≡ x) ⊎ (is_in y l ≡ true)
in_cases y x l e = go (eqb y x) refl
  where
    go : (b : Bool) → eqb y x ≡ b → (y ≡ x) ⊎ (is_in y l ≡ true)
    go true f = inl (eqb-true y x f)
    go false f = inr (rw (count_cons (eqb y) x l, f) at e)

pub in_none : (y : ℕ) → is_in y [] ≡ false
unfolding count
in_none y = refl

pub in_same : (y : ℕ) (a b : List ℕ) → Same a b → is_in y a ≡ is_in y b
in_same y a b h = ap (λ n. ltb 0 n) (h (eqb y))

-- ---- the same set

pub same_cons : (x : ℕ) (a b : List ℕ) → Same a b → Same (x ∷ a) (x ∷ b)
same_cons x a b h f = rw (count_cons f x a, count_cons f x b, h f)

if_count : (f : ℕ → Bool) (b : Bool) (x : ℕ) (l : List ℕ) → count f (cond b (x ∷ l) l) ≡ cond b (cond (f x) (suc (count f l)) (count f l)) (count f l)
unfolding count
if_count f true x l = refl
if_count f false x l = refl

cond_and : (b c : Bool) (n : ℕ) → cond b (cond c (suc n) n) n ≡ cond (b && c) (suc n) n
cond_and true c n = refl
cond_and false c n = refl

count_up_to : (f : ℕ → Bool) (q : ℕ) (l : List ℕ) → count f (up_to q l) ≡ count (λ x. leb x q && f x) l
unfolding count up_to
count_up_to f q [] = refl
count_up_to f q (x ∷ xs) = if_count f (leb x q) x (up_to q xs) ∙ rw (count_up_to f q xs) (cond_and (leb x q) (f x) (count (λ x. leb x q && f x) xs))

pub same_up_to : (q : ℕ) (a b : List ℕ) → Same a b → Same (up_to q a) (up_to q b)
same_up_to q a b h f = count_up_to f q a ∙ h (λ x. leb x q && f x) ∙ sym (count_up_to f q b)

-- ---- the greatest

pub greatest_bound : (l : List ℕ) (y : ℕ) → is_in y l ≡ true → y ≤ greatest l
unfolding greatest
greatest_bound [] y e = true_or_false (is_in y []) e (in_none y)
greatest_bound (x ∷ xs) y e =
    ⊎_elim (λ (f : y ≡ x). omega arith) (λ (f : is_in y xs ≡ true). omega (arith, greatest_bound xs y f)) (in_cases y x xs e)

max_cases : (x y : ℕ) → (max x y ≡ x) ⊎ (max x y ≡ y)
max_cases x y = go (leb x y) refl
  where
    go : (b : Bool) → leb x y ≡ b → (max x y ≡ x) ⊎ (max x y ≡ y)
    go true e = inr (omega (arith, leb-true x y e))
    go false e = inl (omega (arith, leb-false x y e))

pub greatest_member : (l : List ℕ) → (greatest l ≡ 0) ⊎ (is_in (greatest l) l ≡ true)
unfolding greatest
greatest_member [] = inl refl
greatest_member (x ∷ xs) =
    ⊎_elim
    (λ (e : max x (greatest xs) ≡ x). inr (rw e (in_front x xs)))
    (λ (e : max x (greatest xs) ≡ greatest xs).
    ⊎_elim (λ (z : greatest xs ≡ 0). inl (e ∙ z)) (λ (m : is_in (greatest xs) xs ≡ true). inr (rw e (in_cons (greatest xs) x xs m))) (greatest_member xs))
    (max_cases x (greatest xs))

greatest_below : (a b : List ℕ) → Same a b → greatest a ≤ greatest b
greatest_below a b h =
    ⊎_elim
    (λ (z : greatest a ≡ 0). omega arith)
    (λ (m : is_in (greatest a) a ≡ true). greatest_bound b (greatest a) (sym (in_same (greatest a) a b h) ∙ m))
    (greatest_member a)

pub greatest_same : (a b : List ℕ) → Same a b → greatest a ≡ greatest b
greatest_same a b h = omega (arith, greatest_below a b h, greatest_below b a (λ f. sym (h f)))

pub greatest_up_to : (q : ℕ) (l : List ℕ) → greatest (up_to q l) ≤ q
unfolding greatest up_to
greatest_up_to q [] = omega arith
greatest_up_to q (x ∷ xs) = go (leb x q) refl (greatest_up_to q xs)
  where
    go : (b : Bool) → leb x q ≡ b → greatest (up_to q xs) ≤ q → greatest (cond b (x ∷ up_to q xs) (up_to q xs)) ≤ q
    go true e h = omega (arith, leb-true x q e)
    go false e h = h

and_absent : (b : Bool) → (b && false) ≡ false
and_absent true = refl
and_absent false = refl

-- a member not above q stays
pub in_up_to : (q y : ℕ) (l : List ℕ) → y ≤ q → is_in y (up_to q l) ≡ is_in y l
unfolding count
in_up_to q y l h = ap (λ n. ltb 0 n) (count_up_to (eqb y) q l ∙ same_test l)
  where
    test : (x : ℕ) (b : Bool) → eqb y x ≡ b → (leb x q && b) ≡ b
    test x true e = rw (le-leb x q (omega (arith, eqb-true y x e)))
    test x false e = and_absent (leb x q)

    same_test : (l : List ℕ) → count (λ x. leb x q && eqb y x) l ≡ count (eqb y) l
    same_test [] = refl
    same_test (x ∷ xs) = rw (test x (eqb y x) refl, same_test xs)

-- ---- no two equal

distinct_few : (l : List ℕ) → distinct l ≡ true → (x : ℕ) → count (eqb x) l ≤ 1
unfolding distinct count
distinct_few [] e x = omega arith
distinct_few (y ∷ ys) e x = go (eqb x y) refl (distinct_few ys (and_true (not (is_in y ys)) (distinct ys) e).1 x)
  where
    rest : (not (is_in y ys) ≡ true) × (distinct ys ≡ true)
    rest = and_true (not (is_in y ys)) (distinct ys) e

    go : (b : Bool) → eqb x y ≡ b → count (eqb x) ys ≤ 1 → cond b (suc (count (eqb x) ys)) (count (eqb x) ys) ≤ 1
    go true f h =
        let n : ltb 0 (count (eqb y) ys) ≡ false = not-true (ltb 0 (count (eqb y) ys)) rest.0 in
        let m : count (eqb x) ys ≡ count (eqb y) ys = ap (λ z. count (eqb z) ys) (eqb-true x y f) in
        omega (arith, ltb-false 0 (count (eqb y) ys) n)
    go false f h = h

few_distinct : (l : List ℕ) → ((x : ℕ) → count (eqb x) l ≤ 1) → distinct l ≡ true
unfolding distinct count
few_distinct [] h = refl
few_distinct (y ∷ ys) h =
    let here : count (eqb y) ys ≤ 0 = go (eqb y y) (eq-eqb y y refl) (h y) in
    rw (le-ltb 0 (count (eqb y) ys) here) (few_distinct ys (λ x. below (eqb x y) x (h x)))
  where
    go : (b : Bool) → b ≡ true → cond b (suc (count (eqb y) ys)) (count (eqb y) ys) ≤ 1 → count (eqb y) ys ≤ 0
    go true e k = omega arith
    go false e k = true_or_false false e refl

    below : (b : Bool) (x : ℕ) → cond b (suc (count (eqb x) ys)) (count (eqb x) ys) ≤ 1 → count (eqb x) ys ≤ 1
    below true x k = omega arith
    below false x k = k

pub distinct_same : (a b : List ℕ) → Same a b → distinct b ≡ true → distinct a ≡ true
distinct_same a b h e = few_distinct a (λ x. omega (arith, h (eqb x), distinct_few b e x))

fewer_up_to : (f : ℕ → Bool) (q : ℕ) (l : List ℕ) → count f (up_to q l) ≤ count f l
unfolding count up_to
fewer_up_to f q [] = omega arith
fewer_up_to f q (x ∷ xs) = go (leb x q) (f x) refl (fewer_up_to f q xs)
  where
    go : (b c : Bool) → f x ≡ c → count f (up_to q xs) ≤ count f xs → count f (cond b (x ∷ up_to q xs) (up_to q xs)) ≤ cond c (suc (count f xs)) (count f xs)
    go true true e h = rw e (omega arith)
    go true false e h = rw e h
    go false true e h = omega arith
    go false false e h = h

pub distinct_up_to : (q : ℕ) (l : List ℕ) → distinct l ≡ true → distinct (up_to q l) ≡ true
distinct_up_to q l e = few_distinct (up_to q l) (λ x. omega (arith, fewer_up_to (eqb x) q l, distinct_few l e x))
