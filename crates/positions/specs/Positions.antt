-- Document 01, "The session": "a set of at most four cue positions"; "the greatest of 0, the kept cues ≤ p, and t if t ≤ p". Definitions only: assumes nothing.
use Rattle.std.specs.Prelude.{◌≡◌, Bool, true, cond, not, ◌&&◌, List, [], ◌∷◌, ℕ, suc, max, eqb, leb, ltb}

-- refusal 11's end, above which no position lies: document 02, W8, "9,007,199,254,740,992 as the new end"
abbrev pub end : ℕ
end = 9007199254740992

-- A set of positions is a list of which it is only asked how many members pass a test.
unfoldable pub count : (ℕ → Bool) → List ℕ → ℕ
count f [] = 0
count f (x ∷ xs) = cond (f x) (suc (count f xs)) (count f xs)

abbrev pub is_in : ℕ → List ℕ → Bool
is_in x l = ltb 0 (count (eqb x) l)

-- how many members are not x, and how many lie above q
abbrev pub others : ℕ → List ℕ → ℕ
others x l = count (λ y. not (eqb x y)) l

abbrev pub above : ℕ → List ℕ → ℕ
above q l = count (ltb q) l

-- the members not above q
unfoldable pub up_to : ℕ → List ℕ → List ℕ
up_to q [] = []
up_to q (x ∷ xs) = cond (leb x q) (x ∷ up_to q xs) (up_to q xs)

-- the greatest of 0 and the members
unfoldable pub greatest : List ℕ → ℕ
greatest [] = 0
greatest (x ∷ xs) = max x (greatest xs)

-- no two members are equal
unfoldable pub distinct : List ℕ → Bool
distinct [] = true
distinct (x ∷ xs) = not (is_in x xs) && distinct xs

-- the same set, whatever the order: of the one as many members pass any test as of the other
abbrev pub Same : List ℕ → List ℕ → Type 0
Same a b = (f : ℕ → Bool) → count f a ≡ count f b
