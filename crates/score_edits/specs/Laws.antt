-- Laws of a score: an edit keeps it sound, and leaves the events before its position alone; an event is placed after all that may precede
-- it, and what the order tells apart may be added in any order; of a sound score, the events at t are those that document 01's walk applies
-- there, and their ranks rise. Assumes nothing.
use Rattle.std.specs.Prelude.{◌≡◌, refl, Bool, true, false, cond, ◌&&◌, List, [], ◌∷◌, ℕ, zero, suc, ◌≤◌, ◌<◌, leb, eqb, ltb, length, get_or}
use Rattle.std.proofs.Common.{sym, ap, arith, le-leb, ne_eqb, leb-true, leb-false, ltb-true, ltb-false, eqb-true}
use Rattle.std.proofs.lemmas.Bool.{eqb-false}
use Rattle.score.specs.declared.TimedEvent.{TimedEvent}
use Rattle.score.specs.Score.{events_at}
use Rattle.score.specs.Due.{due, left_at, Rising, walk_is}
use Rattle.positions.specs.Positions.{end}
use Rattle.positions.specs.Laws.{and_true, and_both, true_or_false}
use Rattle.score_edits.specs.Edits.{rank_of, may_precede, RisingRanks, placed, place_of, removed, sound_event, sound_event_to, sound_velocity}
use Rattle.score_edits.specs.Edits.{sound_after, sound_after_to, sound_score, sound_score_to}

-- ---- the order

-- the test by whether the positions are one
abbrev precedes_if : Bool → TimedEvent → TimedEvent → Bool
precedes_if b x y = cond b (leb (rank_of x.event) (rank_of y.event)) (ltb x.position y.position)

-- What may precede y: an earlier event, and one at y's position whose rank is not above y's.
precedes : (x y : TimedEvent) → may_precede x y ≡ true → (x.position ≤ y.position) × (x.position ≡ y.position → rank_of x.event ≤ rank_of y.event)
unfolding may_precede
precedes x y t = by_test (eqb x.position y.position) refl t
  where
    by_test : (b : Bool) → eqb x.position y.position ≡ b → precedes_if b x y ≡ true
        → (x.position ≤ y.position) × (x.position ≡ y.position → rank_of x.event ≤ rank_of y.event)
    by_test true e t = (omega (arith, eqb-true x.position y.position e), λ q. leb-true (rank_of x.event) (rank_of y.event) t)
    by_test false e t = (omega (arith, ltb-true x.position y.position t), λ q. absurd (eqb-false x.position y.position e q))

-- and whatever is so may
precede_by : (x y : TimedEvent) → x.position ≤ y.position → (x.position ≡ y.position → rank_of x.event ≤ rank_of y.event) → may_precede x y ≡ true
unfolding may_precede
precede_by x y h r = by_test (eqb x.position y.position) refl
  where
    by_test : (b : Bool) → eqb x.position y.position ≡ b → precedes_if b x y ≡ true
    by_test true e = le-leb (rank_of x.event) (rank_of y.event) (r (eqb-true x.position y.position e))
    by_test false e = earlier (ltb x.position y.position) refl
      where
        earlier : (b : Bool) → ltb x.position y.position ≡ b → b ≡ true
        earlier true q = refl
        earlier false q = absurd (eqb-false x.position y.position e (omega (arith, ltb-false x.position y.position q)))

-- These three, and what `precedes` says, are all that is used of the order below.

pub precede_self : (x : TimedEvent) → may_precede x x ≡ true
precede_self x = precede_by x x (omega arith) (λ q. omega arith)

precede_other : (x y : TimedEvent) → may_precede x y ≡ false → may_precede y x ≡ true
unfolding may_precede
precede_other x y t = by_test (eqb x.position y.position) refl t
  where
    by_test : (b : Bool) → eqb x.position y.position ≡ b → precedes_if b x y ≡ false → may_precede y x ≡ true
    by_test true e t =
        precede_by y x (omega (arith, eqb-true x.position y.position e)) (λ q. omega (arith, leb-false (rank_of x.event) (rank_of y.event) t))
    by_test false e t =
        precede_by y x (ltb-false x.position y.position t) (λ q. absurd (eqb-false x.position y.position e (sym q)))

precede_both : (x y z : TimedEvent) → may_precede x y ≡ true → may_precede y z ≡ true → may_precede x z ≡ true
precede_both x y z e f =
    let a = precedes x y e in
    let b = precedes y z f in
    precede_by x z (omega (arith, a.0, b.0))
    (λ q.
    let xy : x.position ≡ y.position = omega (arith, a.0, b.0, q) in
    let yz : y.position ≡ z.position = omega (arith, a.0, b.0, q) in
    omega (arith, a.1 xy, b.1 yz))

-- ---- lengths

length_if : (b : Bool) (x e : TimedEvent) (xs ys : List TimedEvent) → length ys ≡ suc (length xs)
    → length (cond b (x ∷ ys) (e ∷ x ∷ xs)) ≡ suc (suc (length xs))
length_if true x e xs ys h = ap suc h
length_if false x e xs ys h = refl

pub length_placed : (l : List TimedEvent) (e : TimedEvent) → length (placed l e) ≡ suc (length l)
unfolding placed
length_placed [] e = refl
length_placed (x ∷ xs) e = length_if (may_precede x e) x e xs (placed xs e) (length_placed xs e)

pub length_removed : (l : List TimedEvent) (k : ℕ) → k < length l → suc (length (removed l k)) ≡ length l
unfolding removed
length_removed [] k h = absurd (omega arith)
length_removed (x ∷ xs) zero h = refl
length_removed (x ∷ xs) (suc k) h = ap suc (length_removed xs k (omega arith))

-- ---- soundness

-- the parts of a passed test
after_parts : (x y : TimedEvent) (ys : List TimedEvent) → sound_after x (y ∷ ys) ≡ true
    → (may_precede x y ≡ true) × (sound_event y ≡ true) × (sound_after y ys ≡ true)
unfolding sound_after_to
after_parts x y ys e =
    let a = and_true (may_precede x y && sound_event y) (sound_after y ys) e in
    let b = and_true (may_precede x y) (sound_event y) a.0 in
    (b.0, b.1, a.1)

after_make : (x y : TimedEvent) (ys : List TimedEvent) → may_precede x y ≡ true → sound_event y ≡ true → sound_after y ys ≡ true → sound_after x (y ∷ ys) ≡ true
unfolding sound_after_to
after_make x y ys a b c = rw (a, b, c)

score_parts : (x : TimedEvent) (xs : List TimedEvent) → sound_score (x ∷ xs) ≡ true → (sound_event x ≡ true) × (sound_after x xs ≡ true)
unfolding sound_score_to
score_parts x xs e = and_true (sound_event x) (sound_after x xs) e

score_make : (x : TimedEvent) (xs : List TimedEvent) → sound_event x ≡ true → sound_after x xs ≡ true → sound_score (x ∷ xs) ≡ true
unfolding sound_score_to
score_make x xs a b = rw (a, b)

after_none : (x : TimedEvent) → sound_after x [] ≡ true
unfolding sound_after_to
after_none x = refl

-- what stands after an event is a score
score_after : (x : TimedEvent) (xs : List TimedEvent) → sound_after x xs ≡ true → sound_score xs ≡ true
unfolding sound_score_to
score_after x [] e = refl
score_after x (y ∷ ys) e = let p = after_parts x y ys e in and_both (sound_event y) (sound_after y ys) p.1 p.2

-- the event between is gone
after_skip : (x y : TimedEvent) (ys : List TimedEvent) → may_precede x y ≡ true → sound_after y ys ≡ true → sound_after x ys ≡ true
unfolding sound_after_to
after_skip x y [] a e = refl
after_skip x y (z ∷ zs) a e = let p = after_parts y z zs e in after_make x z zs (precede_both x y z a p.0) p.1 p.2

after_placed : (x : TimedEvent) (l : List TimedEvent) (e : TimedEvent) → may_precede x e ≡ true → sound_event e ≡ true → sound_after x l ≡ true
    → sound_after x (placed l e) ≡ true
unfolding placed
after_placed x [] e a s h = after_make x e [] a s (after_none e)
after_placed x (y ∷ ys) e a s h = let p = after_parts x y ys h in go (may_precede y e) refl p (λ b. after_placed y ys e b s p.2)
  where
    go : (b : Bool) → may_precede y e ≡ b → (may_precede x y ≡ true) × (sound_event y ≡ true) × (sound_after y ys ≡ true)
        → (may_precede y e ≡ true → sound_after y (placed ys e) ≡ true) → sound_after x (cond b (y ∷ placed ys e) (e ∷ y ∷ ys)) ≡ true
    go true b p ih = after_make x y (placed ys e) p.0 p.1 (ih b)
    go false b p ih = after_make x e (y ∷ ys) a s (after_make e y ys (precede_other y e b) p.1 p.2)

pub sound_placed : (l : List TimedEvent) (e : TimedEvent) → sound_event e ≡ true → sound_score l ≡ true → sound_score (placed l e) ≡ true
unfolding placed
sound_placed [] e s h = score_make e [] s (after_none e)
sound_placed (x ∷ xs) e s h = let p = score_parts x xs h in go (may_precede x e) refl p
  where
    go : (b : Bool) → may_precede x e ≡ b → (sound_event x ≡ true) × (sound_after x xs ≡ true) → sound_score (cond b (x ∷ placed xs e) (e ∷ x ∷ xs)) ≡ true
    go true b p = score_make x (placed xs e) p.0 (after_placed x xs e b s p.1)
    go false b p = score_make e (x ∷ xs) s (after_make e x xs (precede_other x e b) p.0 p.1)

after_removed : (x : TimedEvent) (l : List TimedEvent) (k : ℕ) → sound_after x l ≡ true → sound_after x (removed l k) ≡ true
unfolding removed
after_removed x [] k h = h
after_removed x (y ∷ ys) zero h = let p = after_parts x y ys h in after_skip x y ys p.0 p.2
after_removed x (y ∷ ys) (suc k) h = let p = after_parts x y ys h in after_make x y (removed ys k) p.0 p.1 (after_removed y ys k p.2)

pub sound_removed : (l : List TimedEvent) (k : ℕ) → sound_score l ≡ true → sound_score (removed l k) ≡ true
unfolding removed
sound_removed [] k h = h
sound_removed (x ∷ xs) zero h = score_after x xs (score_parts x xs h).1
sound_removed (x ∷ xs) (suc k) h = let p = score_parts x xs h in score_make x (removed xs k) p.0 (after_removed x xs k p.1)

-- each event of a sound score lies at or before the end
pub sound_position : (l : List TimedEvent) (k : ℕ) (d : TimedEvent) → sound_score l ≡ true → k < length l → (get_or l k d).position ≤ end
unfolding sound_event_to
sound_position [] k d e h = absurd (omega arith)
sound_position (x ∷ xs) zero d e h =
    leb-true x.position end (and_true (leb x.position end) (sound_velocity x.event) (score_parts x xs e).0).0
sound_position (x ∷ xs) (suc k) d e h = sound_position xs k d (score_after x xs (score_parts x xs e).1) (omega arith)

-- ---- where an event is placed

-- what stands first in a sound score may precede all of it
after_all : (x : TimedEvent) (l : List TimedEvent) (k : ℕ) (d : TimedEvent) → sound_after x l ≡ true → k < length l → may_precede x (get_or l k d) ≡ true
after_all x [] k d e h = absurd (omega arith)
after_all x (y ∷ ys) zero d e h = (after_parts x y ys e).0
after_all x (y ∷ ys) (suc k) d e h = let p = after_parts x y ys e in precede_both x y (get_or ys k d) p.0 (after_all y ys k d p.2 (omega arith))

-- In a sound score an event's place divides those that may precede it from all others: it goes after all events of earlier position and
-- after those of its position and same or earlier kind, and ahead of the rest.
pub place_divides : (l : List TimedEvent) (e : TimedEvent) (k : ℕ) (d : TimedEvent) → sound_score l ≡ true → k < length l
    → (k < place_of l e → may_precede (get_or l k d) e ≡ true) × (place_of l e ≤ k → may_precede (get_or l k d) e ≡ false)
unfolding place_of
place_divides [] e k d s h = absurd (omega arith)
place_divides (x ∷ xs) e zero d s h = by_test (may_precede x e) refl
  where
    by_test : (b : Bool) → may_precede x e ≡ b
        → (0 < cond b (suc (place_of xs e)) 0 → may_precede x e ≡ true) × (cond b (suc (place_of xs e)) 0 ≤ 0 → may_precede x e ≡ false)
    by_test true f = (λ q. f, λ q. absurd (omega arith))
    by_test false f = (λ q. absurd (omega arith), λ q. f)
place_divides (x ∷ xs) e (suc k) d s h =
    let p = score_parts x xs s in
    by_test (may_precede x e) refl (place_divides xs e k d (score_after x xs p.1) (omega arith)) (after_all x xs k d p.1 (omega arith))
  where
    -- where x may not precede e, nothing behind x may
    none_behind : (b : Bool) → may_precede (get_or xs k d) e ≡ b → may_precede x (get_or xs k d) ≡ true → may_precede x e ≡ false → b ≡ false
    none_behind true g r f = true_or_false _ (precede_both x (get_or xs k d) e r g) f
    none_behind false g r f = refl

    by_test : (b : Bool) → may_precede x e ≡ b
        → (k < place_of xs e → may_precede (get_or xs k d) e ≡ true) × (place_of xs e ≤ k → may_precede (get_or xs k d) e ≡ false)
        → may_precede x (get_or xs k d) ≡ true
        → (suc k < cond b (suc (place_of xs e)) 0 → may_precede (get_or xs k d) e ≡ true)
        × (cond b (suc (place_of xs e)) 0 ≤ suc k → may_precede (get_or xs k d) e ≡ false)
    by_test true f rest r = (λ q. rest.0 (omega arith), λ q. rest.1 (omega arith))
    by_test false f rest r = (λ q. absurd (omega arith), λ q. none_behind (may_precede (get_or xs k d) e) refl r f)

-- Two events that the order tells apart give one score, whichever is added first.
pub placed_swap : (l : List TimedEvent) (a b : TimedEvent) → may_precede b a ≡ false → placed (placed l a) b ≡ placed (placed l b) a
unfolding placed
placed_swap [] a b h = rw (h, precede_other b a h)
placed_swap (x ∷ xs) a b h = by_tests (may_precede x a) refl (may_precede x b) refl (placed_swap xs a b h)
  where
    by_tests : (f : Bool) → may_precede x a ≡ f → (g : Bool) → may_precede x b ≡ g → placed (placed xs a) b ≡ placed (placed xs b) a
        → placed (cond f (x ∷ placed xs a) (a ∷ x ∷ xs)) b ≡ placed (cond g (x ∷ placed xs b) (b ∷ x ∷ xs)) a
    by_tests true f true g rest = rw (f, g, rest)
    by_tests true f false g rest = true_or_false _ (precede_both x a b f (precede_other b a h)) g
    by_tests false f true g rest = rw (f, g, precede_other b a h)
    by_tests false f false g rest = rw (f, g, h, precede_other b a h)

-- ---- the events before an edit's position stay

placed_if : (b : Bool) (k : ℕ) (x e : TimedEvent) (xs ys : List TimedEvent) → eqb e.position k ≡ false → events_at ys k ≡ events_at xs k
    → events_at (cond b (x ∷ ys) (e ∷ x ∷ xs)) k ≡ events_at (x ∷ xs) k
unfolding events_at
placed_if true k x e xs ys h g = rw g
placed_if false k x e xs ys h g = rw h

pub placed_before : (l : List TimedEvent) (e : TimedEvent) (k : ℕ) → k < e.position → events_at l k ≡ events_at (placed l e) k
unfolding placed events_at
placed_before [] e k h = rw (ne_eqb e.position k (λ z. omega arith))
placed_before (x ∷ xs) e k h = sym (placed_if (may_precede x e) k x e xs (placed xs e) (ne_eqb e.position k (λ z. omega arith)) (sym (placed_before xs e k h)))

pub removed_before : (l : List TimedEvent) (n : ℕ) (d : TimedEvent) (k : ℕ) → n < length l → k < (get_or l n d).position
    → events_at l k ≡ events_at (removed l n) k
unfolding removed events_at
removed_before [] n d k h g = refl
removed_before (x ∷ xs) zero d k h g = rw (ne_eqb x.position k (λ z. omega arith))
removed_before (x ∷ xs) (suc n) d k h g = rw (removed_before xs n d k (omega arith) g)

-- ---- document 01, "One sample": "events whose position is not above t"

-- positions that do not fall
rising_after : (x : TimedEvent) (l : List TimedEvent) → sound_after x l ≡ true → Rising x.position l
unfolding Rising
rising_after x [] e = tt
rising_after x (y ∷ ys) e = let p = after_parts x y ys e in ((precedes x y p.0).0, rising_after y ys p.2)

sound_rising : (l : List TimedEvent) → sound_score l ≡ true → Rising 0 l
unfolding Rising
sound_rising [] e = tt
sound_rising (x ∷ xs) e = (omega arith, rising_after x xs (score_parts x xs e).1)

-- of a sound score, the events at t are those that the walk over it applies at sample t
pub sound_walk : (l : List TimedEvent) (t : ℕ) → sound_score l ≡ true → events_at l t ≡ due t (left_at l t)
sound_walk l t e = sym (walk_is l t (sound_rising l e))

-- ---- document 02, W1: "at one position a release acts first, then a hand damp, a pedal move and a strike"

ranks_after : (x : TimedEvent) (l : List TimedEvent) (t : ℕ) → x.position ≡ t → sound_after x l ≡ true → RisingRanks (rank_of x.event) (events_at l t)
unfolding RisingRanks events_at
ranks_after x [] t q e = tt
ranks_after x (y ∷ ys) t q e =
    let p = after_parts x y ys e in
    by_test (eqb y.position t) refl (λ h. ranks_after y ys t h p.2) (ranks_after x ys t q (after_skip x y ys p.0 p.2)) (precedes x y p.0).1
  where
    by_test : (b : Bool) → eqb y.position t ≡ b → (y.position ≡ t → RisingRanks (rank_of y.event) (events_at ys t))
        → RisingRanks (rank_of x.event) (events_at ys t)
        → (x.position ≡ y.position → rank_of x.event ≤ rank_of y.event) → RisingRanks (rank_of x.event) (cond b (y.event ∷ events_at ys t) (events_at ys t))
    by_test true h here past r = let same = eqb-true y.position t h in (r (omega (arith, q, same)), here same)
    by_test false h here past r = past

-- of a sound score, the events that act on one sample act by rising rank
pub sound_ranks : (l : List TimedEvent) (t : ℕ) → sound_score l ≡ true → RisingRanks 0 (events_at l t)
unfolding RisingRanks events_at
sound_ranks [] t e = tt
sound_ranks (x ∷ xs) t e =
    let p = score_parts x xs e in by_test (eqb x.position t) refl (λ h. ranks_after x xs t h p.1) (sound_ranks xs t (score_after x xs p.1))
  where
    by_test : (b : Bool) → eqb x.position t ≡ b → (x.position ≡ t → RisingRanks (rank_of x.event) (events_at xs t)) → RisingRanks 0 (events_at xs t)
        → RisingRanks 0 (cond b (x.event ∷ events_at xs t) (events_at xs t))
    by_test true h here past = (omega arith, here (eqb-true x.position t h))
    by_test false h here past = past
