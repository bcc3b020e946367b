-- What the iterators say of a slice, a part of a record's places, in the words of specs/Valid.antt, which numbers the places. Assumes nothing.
use mathlib.Core.Path.{◌≡◌, refl, sym, ap, ◌∙◌}
use mathlib.Core.Bool.{Bool, true, false, ◌&&◌}
use mathlib.Core.List.{List, [], ◌∷◌, ◌++◌}
use Prim.Native.Nat.{ℕ, zero, suc, ◌+◌, ◌-◌, ◌≤◌, ◌<◌}
use native.Mathlib.Numerals.{add-one}
use native.Mathlib.Omega.{arith}
use lib.ListN.{length, take, drop, get_or}
use lib.Seq.{take-suc, take_all, drop-cons}
use lib.Dec.{eqb, leb, ltb}
use mathlib.Core.Bool.{cond, not, and-true}
use Rattle.std.specs.Prelude.{Some, None}
use lib.Seq.{take-append_seam, get_or-append_seam}
use borrow.Author.Tests.{leb-true}
use Rattle.std.proofs.lemmas.List.{get_or-drop, get_or-take, length-take-le, length-drop, take-take}
use Rattle.std.specs.List.{list_all, sum_by, position, position_or_len}
use Rattle.std.proofs.lemmas.List.Folds.{list_all_more}
use Rattle.std.proofs.lemmas.List.Sums.{sum_by_push}
use Rattle.counting.specs.Below.{all_below, sum_below}
use Rattle.counting.specs.Laws.{all_cong, sum_bound}
use Rattle.instrument_fields.specs.declared.KeyDesign.{KeyDesign}
use Rattle.instrument_fields.specs.declared.LoopDesign.{LoopDesign}
use Rattle.instrument_fields.specs.Ranges.{key_in_range, string_in_range}
use Rattle.instrument_fields.specs.Unused.{is_no_key, is_no_string}
use Rattle.instrument.specs.declared.Instrument.{Instrument}
use Rattle.instrument.specs.Valid.{past_key, key_at, past_string, string_at, keys_in_range, string_sum, new_key, keys_apart, keys_unused, strings_in_range, strings_unused}
use Rattle.instrument.specs.ValidLaws.{few_strings_lem}
use Rattle.instrument.specs.KeyIndex.{key_index, key_place}
use Rattle.instrument.specs.Work.{string_cells, counted_cells}

module _ {A : Type 0} (z : A) where
  -- the first n elements
  pub all_first : (p : A → Bool) (xs : List A) (n : ℕ) → n ≤ length xs → list_all p (take n xs) ≡ all_below n (λ k. p (get_or xs k z))
  unfolding all_below
  all_first p xs zero h = refl
  all_first p xs (suc n) h =
      ap (λ (m : ℕ). list_all p (take m xs)) (sym (add-one n))
      ∙ list_all_more p xs n z (omega arith)
      ∙ ap (λ (t : Bool). t && p (get_or xs n z)) (all_first p xs n (omega arith))

  pub sum_first : (f : A → ℕ) (xs : List A) (n : ℕ) → n ≤ length xs → sum_by f (take n xs) ≡ sum_below n (λ k. f (get_or xs k z))
  unfolding sum_below
  sum_first f xs zero h = refl
  sum_first f xs (suc n) h =
      ap (sum_by f) (take-suc xs n z (omega arith))
      ∙ sum_by_push f (take n xs) (get_or xs n z)
      ∙ ap (λ (m : ℕ). m + f (get_or xs n z)) (sum_first f xs n (omega arith))

  -- the elements from m on
  pub all_rest : (p : A → Bool) (xs : List A) (m : ℕ) → list_all p (drop m xs) ≡ all_below (length xs - m) (λ k. p (get_or xs (m + k) z))
  all_rest p xs m =
      let rest = drop m xs in
      let size : length rest ≡ length xs - m = length-drop m xs in
      sym (ap (list_all p) (take_all (length xs - m) rest (omega (arith, size))))
      ∙ all_first p rest (length xs - m) (omega (arith, size))
      ∙ all_cong (length xs - m) (λ k. p (get_or rest k z)) (λ k. p (get_or xs (m + k) z)) (λ k l. ap p (get_or-drop m xs k z))

-- ---- keys

module _ (keys : List KeyDesign) (n : ℕ) (h : n ≤ length keys) where
  pub keys_in_range_first : list_all key_in_range (take n keys) ≡ keys_in_range keys n
  unfolding keys_in_range
  keys_in_range_first = all_first past_key key_in_range keys n h

  pub string_sum_first : sum_by (λ (k : KeyDesign). k.strings) (take n keys) ≡ string_sum keys n
  unfolding string_sum
  string_sum_first = sum_first past_key (λ k. k.strings) keys n h

  -- three strings a key at most
  pub string_sum_most : n ≤ 16 → keys_in_range keys n ≡ true → sum_by (λ (k : KeyDesign). k.strings) (take n keys) ≤ 48
  unfolding string_sum
  string_sum_most few r =
      let b = sum_bound (λ k. (key_at keys k).strings) n 3 (few_strings_lem keys n r) in
      omega (arith, string_sum_first, b)

  new_key_first : (k : ℕ) → k < n → new_key (take n keys) k ≡ new_key keys k
  unfolding new_key
  new_key_first k l =
      all_cong k (λ j. not (eqb (key_at (take n keys) j).key (key_at (take n keys) k).key)) (λ j. not (eqb (key_at keys j).key (key_at keys k).key))
      (λ j m.
      ap (λ (d : KeyDesign). not (eqb d.key (key_at (take n keys) k).key)) (get_or-take n keys j past_key (omega arith))
      ∙ ap (λ (d : KeyDesign). not (eqb (key_at keys j).key d.key)) (get_or-take n keys k past_key l))

  pub keys_apart_first : keys_apart (take n keys) (length (take n keys)) ≡ keys_apart keys n
  unfolding keys_apart
  keys_apart_first =
      ap (keys_apart (take n keys)) (length-take-le n keys h)
      ∙ all_cong n (new_key (take n keys)) (new_key keys) new_key_first

pub keys_unused_rest : (keys : List KeyDesign) (m : ℕ) → length keys ≡ 16 → list_all is_no_key (drop m keys) ≡ keys_unused keys m
unfolding keys_unused
keys_unused_rest keys m size = all_rest past_key is_no_key keys m ∙ rw size

-- the test of the last of some keys, as the definition has it
pub apart_more : (keys : List KeyDesign) (m : ℕ) → m < length keys
    → keys_apart keys (m + 1) ≡ (keys_apart keys m && list_all (λ k. not (eqb k.key (key_at keys m).key)) (take m keys))
unfolding keys_apart all_below new_key
apart_more keys m h = rw (add-one m, all_first past_key (λ k. not (eqb k.key (key_at keys m).key)) keys m (omega arith))

and_false : (a : Bool) → (a && false) ≡ false
and_false true = refl
and_false false = refl

-- one turn of the walk from the last key down: `rest` is the first keys, x the last of them, `before` the others
module _ (keys rest before : List KeyDesign) (x : KeyDesign) (len : length rest ≤ length keys) (first : rest ≡ take (length rest) keys)
    (split : rest ≡ before ++ (x ∷ [])) (size : length before + 1 ≡ length rest) where
  whole : take (length before + 1) keys ≡ before ++ (x ∷ [])
  whole = ap (λ (n : ℕ). take n keys) size ∙ sym first ∙ split

  last_is : key_at keys (length before) ≡ x
  last_is =
      sym (get_or-take (length before + 1) keys (length before) past_key (omega arith))
      ∙ ap (λ (l : List KeyDesign). get_or l (length before) past_key) whole
      ∙ get_or-append_seam before x [] past_key

  pub before_first : before ≡ take (length before) keys
  before_first =
      sym (take-append_seam before (x ∷ []))
      ∙ ap (take (length before)) (sym whole)
      ∙ take-take (length before) (length before + 1) keys (omega arith)

  apart_turn : keys_apart keys (length rest) ≡ (keys_apart keys (length before) && list_all (λ (k : KeyDesign). not (eqb k.key x.key)) before)
  apart_turn =
      ap (keys_apart keys) (sym size)
      ∙ apart_more keys (length before) (omega arith)
      ∙ ap (λ (d : KeyDesign). keys_apart keys (length before) && list_all (λ (k : KeyDesign). not (eqb k.key d.key)) (take (length before) keys)) last_is
      ∙ ap (λ (l : List KeyDesign). keys_apart keys (length before) && list_all (λ (k : KeyDesign). not (eqb k.key x.key)) l) (sym before_first)

  pub apart_not : list_all (λ (k : KeyDesign). not (eqb k.key x.key)) before ≡ false → keys_apart keys (length rest) ≡ false
  apart_not e = apart_turn ∙ rw (e, and_false (keys_apart keys (length before)))

  pub apart_next : list_all (λ (k : KeyDesign). not (eqb k.key x.key)) before ≡ true → keys_apart keys (length rest) ≡ keys_apart keys (length before)
  apart_next e = apart_turn ∙ rw (e, and-true (keys_apart keys (length before)))

pub apart_none : (keys : List KeyDesign) → keys_apart keys 0 ≡ true
unfolding keys_apart all_below
apart_none keys = refl

-- ---- the place of a key

module _ (keys : List KeyDesign) (x : ℕ) where
  abbrev is_it : KeyDesign → Bool
  is_it k = eqb k.key x

  place_turn : (n i : ℕ) → i + suc n ≤ length keys → (b : Bool) → is_it (key_at keys i) ≡ b
      → key_index keys (i + 1) n x ≡ i + 1 + position_or_len is_it (take n (drop (i + 1) keys))
      → key_index keys i (suc n) x ≡ i + position_or_len is_it (take (suc n) (drop i keys))
  unfolding key_index
  place_turn n i h true q r = rw (drop-cons keys i past_key (omega arith), q) (omega arith)
  place_turn n i h false q r = rw (drop-cons keys i past_key (omega arith), q, r, add-one i) (omega arith)

  place_from : (n i : ℕ) → i + n ≤ length keys → key_index keys i n x ≡ i + position_or_len is_it (take n (drop i keys))
  unfolding key_index
  place_from zero i h = omega arith
  place_from (suc n) i h = place_turn n i h (is_it (key_at keys i)) refl (place_from n (i + 1) (omega arith))

pub key_place_first : (i : Instrument) (x : ℕ) → i.key_count ≤ length i.keys → position (λ k. eqb k.key x) (take i.key_count i.keys) ≡ key_place i x
key_place_first i x h =
    let size = length-take-le i.key_count i.keys h in
    let p : key_index i.keys 0 i.key_count x ≡ 0 + position_or_len (λ k. eqb k.key x) (take i.key_count i.keys) = place_from i.keys x i.key_count 0 (omega arith) in
    let e : key_index i.keys 0 i.key_count x ≡ position_or_len (λ k. eqb k.key x) (take i.key_count i.keys) = omega (arith, p) in
    ap (λ (n : ℕ). cond (ltb (position_or_len (λ k. eqb k.key x) (take i.key_count i.keys)) n) (Some (position_or_len (λ k. eqb k.key x) (take i.key_count i.keys))) None) size
    ∙ ap (λ (n : ℕ). cond (ltb n i.key_count) (Some n) None) (sym e)

-- ---- strings

pub strings_in_range_first : (strings : List LoopDesign) (m : ℕ) → m ≤ length strings
    → list_all string_in_range (take m strings) ≡ strings_in_range strings m
unfolding strings_in_range
strings_in_range_first strings m h = all_first past_string string_in_range strings m h

pub strings_unused_rest : (strings : List LoopDesign) (m : ℕ) → length strings ≡ 32
    → list_all is_no_string (drop m strings) ≡ strings_unused strings m
unfolding strings_unused
strings_unused_rest strings m size = all_rest past_string is_no_string strings m ∙ rw size

-- ---- cells

cells_most : (s : LoopDesign) → counted_cells s ≤ 4137
unfolding counted_cells
cells_most s = by_tests (leb s.n 2000) (leb s.ap_count 66) refl refl
  where
    by_tests : (a b : Bool) → leb s.n 2000 ≡ a → leb s.ap_count 66 ≡ b → cond (a && b) (string_cells s) 0 ≤ 4137
    by_tests true true p q = let u = leb-true s.n 2000 p in let v = leb-true s.ap_count 66 q in omega arith
    by_tests true false p q = omega arith
    by_tests false b p q = omega arith

pub cells_first : (strings : List LoopDesign) (n : ℕ) → n ≤ length strings
    → sum_by counted_cells (take n strings) ≡ sum_below n (λ j. counted_cells (string_at strings j))
cells_first strings n h = sum_first past_string counted_cells strings n h

pub part_most : (strings : List LoopDesign) (n : ℕ) → n ≤ length strings → n ≤ 32 → sum_by counted_cells (take n strings) ≤ 132384
part_most strings n h few =
    let b = sum_bound (λ j. counted_cells (string_at strings j)) n 4137 (λ j l. cells_most (string_at strings j)) in
    omega (arith, cells_first strings n h, b)
