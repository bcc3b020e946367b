-- Laws of the slots: what they keep as a set of positions, and what a passed test says of each. Assumes nothing.
use Rattle.std.specs.Prelude.{◌≡◌, refl, Bool, true, false, cond, not, ◌&&◌, ◌||◌, List, [], ◌∷◌, map, ℕ, zero, suc, ◌+◌, ◌<◌, ◌≤◌, eqb, leb, ltb}
use Rattle.std.specs.Prelude.{length, get_or, set, position, Some, None}
use Rattle.std.specs.Option.{is_some}
use Rattle.std.specs.List.{position_or_len}
use Rattle.std.proofs.Common.{sym, ◌∙◌, ap, one-add, arith, ltb-true, lt-ltb, le-leb, eqb-true, leb-true}
use Rattle.std.proofs.Math.Dec.{leb-suc-suc}
use Rattle.std.proofs.lemmas.Bool.{not-true}
use Rattle.std.proofs.lemmas.List.Sums.{passes_at_first, prefix_len-le-length}
use Rattle.score.specs.declared.Piano.{Piano}
use Rattle.score.specs.Contacts.{contacts_of, hammer_on}
use Rattle.positions.specs.Positions.{end, count, is_in, up_to, distinct, Same}
use Rattle.positions.specs.Laws.{and_true, and_both, true_or_false, count_swap, in_front, in_cons, in_none}
use Rattle.session_cues.specs.declared.Cue.{Cue}
use Rattle.session_cues.specs.Cues.{kept_of, stands_at, is_free, slot_at, free_slot, drop_above, sound_piano, sound_cue, sound_cue_to, sound_cues}
use Rattle.session_cues.specs.Cues.{sound_cues_to}

-- ---- what the slots keep

pub kept_length : (cs : List Cue) → length (kept_of cs) ≤ length cs
unfolding kept_of
kept_length [] = omega arith
kept_length (c ∷ cs) = go c.kept (kept_length cs)
  where
    go : (b : Bool) → length (kept_of cs) ≤ length cs → length (cond b (c.position ∷ kept_of cs) (kept_of cs)) ≤ suc (length cs)
    go true h = omega arith
    go false h = omega arith

-- a position is kept where a slot keeps it
in_if : (t x : ℕ) (k : Bool) (l : List ℕ) → is_in t (cond k (x ∷ l) l) ≡ cond (k && eqb t x) true (is_in t l)
unfolding count
in_if t x true l = go (eqb t x)
  where
    go : (b : Bool) → ltb 0 (cond b (suc (count (eqb t) l)) (count (eqb t) l)) ≡ cond b true (ltb 0 (count (eqb t) l))
    go true = lt-ltb 0 (suc (count (eqb t) l)) (omega arith)
    go false = refl
in_if t x false l = refl

below_next : (a b : ℕ) → ltb (1 + a) (suc b) ≡ ltb a b
below_next a b = rw (one-add a) (leb-suc-suc (suc a) b)

pub slot_in : (x : ℕ) (cs : List Cue) → ltb (slot_at x cs) (length cs) ≡ is_in x (kept_of cs)
unfolding kept_of
slot_in x [] = sym (in_none x)
slot_in x (c ∷ cs) = go (stands_at x c) (slot_in x cs) ∙ sym (in_if x c.position c.kept (kept_of cs))
  where
    go : (b : Bool) → ltb (slot_at x cs) (length cs) ≡ is_in x (kept_of cs)
        → ltb (cond (not b) (1 + slot_at x cs) 0) (suc (length cs)) ≡ cond b true (is_in x (kept_of cs))
    go true e = lt-ltb 0 (suc (length cs)) (omega arith)
    go false e = below_next (slot_at x cs) (length cs) ∙ e

-- the slot found keeps the position
pub slot_kept : (x : ℕ) (cs : List Cue) (d : Cue) → slot_at x cs < length cs
    → ((get_or cs (slot_at x cs) d).kept ≡ true) × ((get_or cs (slot_at x cs) d).position ≡ x)
slot_kept x cs d h =
    let c = get_or cs (slot_at x cs) d in
    let p = and_true c.kept (eqb x c.position) (passes_at_first (stands_at x) cs d h) in
    (p.0, sym (eqb-true x c.position p.1))

-- a kept slot's position is kept
pub kept_in : (cs : List Cue) (j : ℕ) (d : Cue) → j < length cs → (get_or cs j d).kept ≡ true → is_in (get_or cs j d).position (kept_of cs) ≡ true
unfolding kept_of
kept_in [] j d h k = absurd (omega arith)
kept_in (c ∷ cs) zero d h k = rw k (in_front c.position (kept_of cs))
kept_in (c ∷ cs) (suc j) d h k = go c.kept (kept_in cs j d (omega arith) k)
  where
    go : (b : Bool) → is_in (get_or cs j d).position (kept_of cs) ≡ true → is_in (get_or cs j d).position (cond b (c.position ∷ kept_of cs) (kept_of cs)) ≡ true
    go true e = in_cons (get_or cs j d).position c.position (kept_of cs) e
    go false e = e

-- ---- the free slot

pub free_slot_free : (cs : List Cue) (d : Cue) → free_slot cs < length cs → (get_or cs (free_slot cs) d).kept ≡ false
free_slot_free cs d h = not-true (get_or cs (free_slot cs) d).kept (passes_at_first is_free cs d h)

pub free_slot_few : (cs : List Cue) → free_slot cs ≤ length cs
free_slot_few cs = prefix_len-le-length (λ c. not (is_free c)) cs

-- no slot is free where as many are kept as there are, and only there
pub free_slot_full : (cs : List Cue) → ltb (free_slot cs) (length cs) ≡ ltb (length (kept_of cs)) (length cs)
unfolding kept_of
free_slot_full [] = refl
free_slot_full (c ∷ cs) = go c.kept (free_slot_full cs) (kept_length cs)
  where
    go : (b : Bool) → ltb (free_slot cs) (length cs) ≡ ltb (length (kept_of cs)) (length cs) → length (kept_of cs) ≤ length cs
        → ltb (cond (not (not b)) (1 + free_slot cs) 0) (suc (length cs)) ≡ ltb (length (cond b (c.position ∷ kept_of cs) (kept_of cs))) (suc (length cs))
    go true e h = below_next (free_slot cs) (length cs) ∙ e ∙ sym (leb-suc-suc (suc (length (kept_of cs))) (length cs))
    go false e h = lt-ltb 0 (suc (length cs)) (omega arith) ∙ sym (lt-ltb (length (kept_of cs)) (suc (length cs)) (omega arith))

-- what a search of the slots gives
module _ (p : Cue → Bool) (cs : List Cue) where
  pub found_if : is_some (position p cs) ≡ ltb (position_or_len p cs) (length cs)
  found_if = go (ltb (position_or_len p cs) (length cs)) refl
    where
      go : (b : Bool) → ltb (position_or_len p cs) (length cs) ≡ b → is_some (position p cs) ≡ ltb (position_or_len p cs) (length cs)
      go true e = rw e
      go false e = rw e

  pub found_at : (j : ℕ) → position p cs ≡ Some j → (j ≡ position_or_len p cs) × (j < length cs)
  found_at j e = go (ltb (position_or_len p cs) (length cs)) refl
    where
      go : (b : Bool) → ltb (position_or_len p cs) (length cs) ≡ b → (j ≡ position_or_len p cs) × (j < length cs)
      go true h =
          let k = rw h at e in
          let m : j ≡ position_or_len p cs = cc in
          (m, omega (arith, ltb-true (position_or_len p cs) (length cs) h))
      go false h = let k = rw h at e in absurd (let z : ⊥ = cc in z)

  pub found_none : position p cs ≡ None → ltb (position_or_len p cs) (length cs) ≡ false
  found_none e = sym found_if ∙ ap is_some e

pub slot_found : (x : ℕ) (cs : List Cue) → is_some (position (stands_at x) cs) ≡ is_in x (kept_of cs)
slot_found x cs = found_if (stands_at x) cs ∙ slot_in x cs

-- a cue put into a free slot is one member more
pub kept_set : (cs : List Cue) (j : ℕ) (c d : Cue) → j < length cs → (get_or cs j d).kept ≡ false → c.kept ≡ true
    → Same (kept_of (set cs j c)) (c.position ∷ kept_of cs)
unfolding kept_of
kept_set [] j c d h e k f = absurd (omega arith)
kept_set (x ∷ cs) zero c d h e k f = rw (e, k)
kept_set (x ∷ cs) (suc j) c d h e k f =
    count_swap f x.kept x.position c.position (kept_of (set cs j c)) (kept_of cs) (kept_set cs j c d (omega arith) e k f)

-- ---- an edit

low : (b c : Bool) (x : ℕ) (l m : List ℕ) → l ≡ m → cond (b && c) (x ∷ l) l ≡ cond b (cond c (x ∷ m) m) m
low true c x l m e = rw e
low false c x l m e = e

up_to_if : (q : ℕ) (b : Bool) (x : ℕ) (l : List ℕ) → up_to q (cond b (x ∷ l) l) ≡ cond b (cond (leb x q) (x ∷ up_to q l) (up_to q l)) (up_to q l)
unfolding up_to
up_to_if q true x l = refl
up_to_if q false x l = refl

pub kept_drop : (q : ℕ) (cs : List Cue) → kept_of (map (drop_above q) cs) ≡ up_to q (kept_of cs)
unfolding kept_of up_to
kept_drop q [] = refl
kept_drop q (c ∷ cs) = low c.kept (leb c.position q) c.position _ _ (kept_drop q cs) ∙ sym (up_to_if q c.kept c.position (kept_of cs))

-- ---- refusal 7

pub piano_parts : (keys x : ℕ) (p : Piano) → sound_piano keys x p ≡ true → (contacts_of keys p ≤ x) × (hammer_on keys p.motion.hammer ≡ true)
unfolding sound_piano
piano_parts keys x p e =
    let a = and_true (leb (contacts_of keys p) x) (hammer_on keys p.motion.hammer) e in
    (leb-true (contacts_of keys p) x a.0, a.1)

cue_held : (b c : Bool) → (not b || c) ≡ true → b ≡ true → c ≡ true
cue_held true c e k = e
cue_held false c e k = true_or_false false k refl

not_held : (b c : Bool) → (b ≡ true → c ≡ true) → (not b || c) ≡ true
not_held true c h = h refl
not_held false c h = refl

-- what holds of a kept cue that passed
pub cue_sound : (keys : ℕ) (cs : List Cue) (j : ℕ) (d : Cue) → sound_cues keys cs ≡ true → j < length cs → (get_or cs j d).kept ≡ true
    → sound_piano keys (get_or cs j d).position (get_or cs j d).piano ≡ true
unfolding sound_cues_to sound_cue_to
cue_sound keys [] j d e h k = absurd (omega arith)
cue_sound keys (c ∷ cs) zero d e h k =
    let a = and_true (sound_cue keys c && not (c.kept && is_in c.position (kept_of cs))) (sound_cues keys cs) e in
    let b = and_true (sound_cue keys c) (not (c.kept && is_in c.position (kept_of cs))) a.0 in
    let m = cue_held c.kept (leb c.position end && sound_piano keys c.position c.piano) b.0 k in
    (and_true (leb c.position end) (sound_piano keys c.position c.piano) m).1
cue_sound keys (c ∷ cs) (suc j) d e h k =
    cue_sound keys cs j d (and_true (sound_cue keys c && not (c.kept && is_in c.position (kept_of cs))) (sound_cues keys cs) e).1 (omega arith) k

not_again : (b c : Bool) → (b ≡ true → c ≡ false) → not (b && c) ≡ true
not_again true c h = rw (h refl)
not_again false c h = refl

distinct_if : (b : Bool) (x : ℕ) (l : List ℕ) → distinct (cond b (x ∷ l) l) ≡ true → (b ≡ true → is_in x l ≡ false) × (distinct l ≡ true)
unfolding distinct
distinct_if true x l e = let a = and_true (not (is_in x l)) (distinct l) e in (λ k. not-true (is_in x l) a.0, a.1)
distinct_if false x l e = (λ k. true_or_false false k refl, e)

-- cues at distinct positions, none above the end, each with a sound piano, pass
pub cues_pass : (keys : ℕ) (cs : List Cue) (d : Cue) → distinct (kept_of cs) ≡ true
    → ((j : ℕ) → j < length cs → (get_or cs j d).kept ≡ true → ((get_or cs j d).position ≤ end)
    × (sound_piano keys (get_or cs j d).position (get_or cs j d).piano ≡ true))
    → sound_cues keys cs ≡ true
unfolding sound_cues_to sound_cue_to kept_of
cues_pass keys [] d e h = refl
cues_pass keys (c ∷ cs) d e h =
    let p = distinct_if c.kept c.position (kept_of cs) e in
    let alone : (not c.kept || (leb c.position end && sound_piano keys c.position c.piano)) ≡ true =
    not_held c.kept _ (λ k. let q = h 0 (omega arith) k in and_both _ _ (le-leb c.position end q.0) q.1) in
    and_both _ _ (and_both _ _ alone (not_again c.kept (is_in c.position (kept_of cs)) p.0)) (cues_pass keys cs d p.1 (λ j l k. h (suc j) (omega arith) k))
