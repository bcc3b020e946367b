-- A list of tests that all hold, and each of them. Assumes nothing.
use Rattle.std.specs.Prelude.{◌≡◌, refl, Bool, true, false, ◌&&◌, List, [], ◌∷◌, ◌++◌, ℕ, zero, suc, get_or}

unfoldable pub every_after : Bool → List Bool → Bool
every_after t [] = t
every_after t (u ∷ l) = every_after (t && u) l

-- each test of the list holds
unfoldable pub every : List Bool → Bool
every = every_after true

-- one test more
pub every_more : (l : List Bool) (u : Bool) → every (l ++ (u ∷ [])) ≡ (every l && u)
unfolding every every_after
every_more l u = go true l
  where
    go : (t : Bool) (l : List Bool) → every_after t (l ++ (u ∷ [])) ≡ (every_after t l && u)
    go t [] = refl
    go t (v ∷ l) = go (t && v) l

pub and_left : (t u : Bool) → (t && u) ≡ true → t ≡ true
and_left true u h = refl
and_left false u h = h

pub and_right : (t u : Bool) → (t && u) ≡ true → u ≡ true
and_right true u h = h
and_right false true h = refl
and_right false false h = h

first_holds : (t : Bool) (l : List Bool) → every_after t l ≡ true → t ≡ true
unfolding every_after
first_holds t [] h = h
first_holds t (u ∷ l) h = and_left t u (first_holds (t && u) l h)

each_holds : (t : Bool) (l : List Bool) → every_after t l ≡ true → (k : ℕ) → get_or l k true ≡ true
unfolding every_after
each_holds t [] h k = refl
each_holds t (u ∷ l) h zero = and_right t u (first_holds (t && u) l h)
each_holds t (u ∷ l) h (suc k) = each_holds (t && u) l h k

-- test k of the list
pub holds : (l : List Bool) → every l ≡ true → (k : ℕ) → get_or l k true ≡ true
unfolding every
holds = each_holds true
