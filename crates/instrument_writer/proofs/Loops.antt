-- The loops: the strings of a key, the sections, and the table's pairs, each over the lists before it. Assumes nothing.
use mathlib.Core.Path.{◌≡◌, refl, sym, ap, ◌∙◌}
use mathlib.Core.Bool.{true}
use mathlib.Core.List.{List, ◌++◌}
use Prim.Native.Nat.{ℕ, suc, ◌+◌, ◌*◌, ◌≤◌, ◌<◌}
use native.Mathlib.Numerals.{add-one}
use native.Mathlib.Omega.{arith}
use lib.ListN.{length, length-append, take, drop}
use Rattle.std.proofs.lemmas.List.{get_or-take, get_or-drop, drop-drop}
use lib.Seq.{sets}
use Rattle.little_endian.specs.Numbers.{le32}
use Rattle.little_endian.specs.Stores.{stored_then, length_le32}
use Rattle.instrument_fields.specs.declared.KeyDesign.{KeyDesign}
use Rattle.instrument_fields.specs.declared.LoopDesign.{LoopDesign}
use Rattle.instrument.specs.declared.Instrument.{Instrument}
use Rattle.counting.specs.Below.{sum_below, gather}
use Rattle.counting.specs.Laws.{sum_same, gather_first, length_gather, gather_cong}
use Rattle.instrument.specs.Valid.{key_at, past_string, string_at, string_sum, valid}
use Rattle.instrument.specs.ValidLaws.{few_strings_lem, string_sum_none, string_sum_more, string_sum_within, valid_counts, keys_ranges, strings_counted}
use Rattle.instrument_encoding.specs.Encode.{common_bytes, string_bytes, head_bytes, key_bytes, section_bytes, section_start}
use Rattle.instrument_encoding.proofs.Lengths.{strings_length, common_length, section_length, sections_length}
use Rattle.instrument_encoding.specs.Placed.{pair_length}
use Rattle.instrument_writer.specs.Pieces.{pair_bytes, table_bytes}
use Rattle.instrument_writer.proofs.Stored.{gathered_next}

-- ---- j strings are stored from p on

module _ (s : ℕ → LoopDesign) (l l₁ l₂ : List ℕ) (p : ℕ) where
  abbrev G : ℕ → List ℕ
  G j = string_bytes (s j)

  pub string_next : (j : ℕ) → l₁ ≡ sets l p (gather j G) → l₂ ≡ sets l₁ (p + 44 * j) (G j) → l₂ ≡ sets l p (gather (j + 1) G)
  string_next j = gathered_next l l₁ l₂ G j (44 * j) p (p + 44 * j) (strings_length s j) refl

-- ---- the keys of a valid record, one behind the other

module _ (i : Instrument) where
  abbrev n : ℕ
  n = i.key_count

  abbrev S : ℕ → List ℕ
  S = section_bytes i

  first_start : 12 + 8 * n ≡ section_start (n + 1) S 0
  unfolding section_start sum_below
  first_start = omega arith

  first_length : length (S 0) ≡ 76
  unfolding section_bytes
  first_length = common_length i.common

  -- what a valid record says of key k
  record KeyBounds (k : ℕ) : Type 0 where
    pub few : (key_at i.keys k).strings ≤ 3
    pub within : string_sum i.keys k + (key_at i.keys k).strings ≤ i.string_count
    pub keys : n ≤ 16
    pub strings : i.string_count ≤ 32

  key_bounds : (k : ℕ) → valid i ≡ true → k < n → KeyBounds k
  key_bounds k v h =
      let c = valid_counts i v in
      let within = string_sum_within i.keys n k h in
      let all = strings_counted i v in
      record { few = few_strings_lem i.keys n (keys_ranges i v) k h; within = omega arith; keys = c.few_keys; strings = c.few_strings }

  -- ---- the sections

  -- the sections of the keys alone, and the pairs of the table for them
  abbrev K : ℕ → List ℕ
  K k = section_bytes i (suc k)

  keys_size : (k : ℕ) → length (gather k K) ≡ 36 * k + 44 * string_sum i.keys k
  unfolding section_bytes
  keys_size k =
      let all = ap length (gather_first k S) ∙ length_gather S (λ j. length (S j)) (λ j. refl) (suc k) ∙ sections_length i k in
      let two = length-append (S 0) (gather k K) in
      let first = common_length i.common in
      omega arith

  module _ (l l₁ l₂ : List ℕ) (p : ℕ) where
    pub key_next : (m k at : ℕ) → m ≡ string_sum i.keys k → at ≡ p + 36 * k + 44 * m → l₁ ≡ sets l p (gather k K)
        → l₂ ≡ sets l₁ at (key_bytes (key_at i.keys k) (λ j. string_at i.strings (m + j))) → l₂ ≡ sets l p (gather (k + 1) K)
    unfolding section_bytes
    key_next m k at sum place e g =
        let here = ap (λ (x : ℕ). key_bytes (key_at i.keys k) (λ j. string_at i.strings (x + j))) sum in
        gathered_next l l₁ l₂ K k (36 * k + 44 * string_sum i.keys k) p at (keys_size k) (omega (arith, sum, place)) e (g ∙ ap (sets l₁ at) here)

    pub sections_stored : l₁ ≡ sets l p (common_bytes i.common) → l₂ ≡ sets l₁ (p + 76) (gather n K) → l₂ ≡ sets l p (gather (n + 1) S)
    unfolding section_bytes
    sections_stored e g =
        stored_then l l₁ l₂ (common_bytes i.common) (gather n K) p 76 (p + 76) (common_length i.common) refl e g
        ∙ ap (sets l p) (gather_first n S ∙ ap (λ (x : ℕ). gather x S) (sym (add-one n)))

  -- k keys are stored up to `at`
  pub record AtKey (p room at k : ℕ) : Type 0 where
    pub passes : valid i ≡ true
    pub space : p + 36 * n + 44 * i.string_count ≤ room
    pub place : at ≡ p + 36 * k + 44 * string_sum i.keys k
    pub below : k ≤ n

  module _ (p room : ℕ) where
    pub at_none : valid i ≡ true → p + 36 * n + 44 * i.string_count ≤ room → AtKey p room p 0
    at_none v h = record { passes = v; space = h; place = omega (arith, string_sum_none i.keys); below = omega arith }

    -- what the stores of key k need
    pub record KeyFits (at k : ℕ) : Type 0 where
      pub few : (key_at i.keys k).strings ≤ 3
      pub keys : n ≤ 16
      pub strings : string_sum i.keys k + (key_at i.keys k).strings ≤ 32
      pub ends : at + 36 + 44 * (key_at i.keys k).strings ≤ room

    module _ (at k : ℕ) (a : AtKey p room at k) (h : k < n) where
      pub key_fits : KeyFits at k
      key_fits = let f = key_bounds k a.passes h in record { few = f.few; keys = f.keys; strings = omega arith; ends = omega (arith, a.place) }

      pub at_next : AtKey p room (at + (36 + 44 * (key_at i.keys k).strings)) (k + 1)
      at_next = record { passes = a.passes; space = a.space; place = omega (arith, a.place, string_sum_more i.keys k); below = omega arith }

  -- ---- the walk through the keys and their strings

  module _ (k : ℕ) where
    -- the strings of key k are the first of those that are left
    strings_here : (s : ℕ) → s ≡ (key_at i.keys k).strings → (rest : List LoopDesign) → rest ≡ drop (string_sum i.keys k) i.strings
        → key_bytes (key_at i.keys k) (λ j. string_at (take s rest) j) ≡ key_bytes (key_at i.keys k) (λ j. string_at i.strings (string_sum i.keys k + j))
    unfolding key_bytes
    strings_here s e rest r =
        ap (λ (l : List ℕ). head_bytes (key_at i.keys k) ++ l)
        (gather_cong (key_at i.keys k).strings (λ j. string_bytes (string_at (take s rest) j)) (λ j. string_bytes (string_at i.strings (string_sum i.keys k + j)))
        (λ j h.
        ap string_bytes
        (get_or-take s rest j past_string (omega (arith, e))
        ∙ ap (λ (l : List LoopDesign). string_at l j) r
        ∙ get_or-drop (string_sum i.keys k) i.strings j past_string)))

    -- and the others are left to the next key
    pub rest_next : (s : ℕ) → s ≡ (key_at i.keys k).strings → (rest : List LoopDesign) → rest ≡ drop (string_sum i.keys k) i.strings
        → drop s rest ≡ drop (string_sum i.keys (k + 1)) i.strings
    rest_next s e rest r =
        ap (drop s) r ∙ drop-drop s (string_sum i.keys k) i.strings ∙ ap (λ (m : ℕ). drop m i.strings) (omega (arith, e, string_sum_more i.keys k))

    pub key_turn : (l l₁ l₂ : List ℕ) (p at s : ℕ) (d : KeyDesign) → d ≡ key_at i.keys k → s ≡ d.strings → (rest : List LoopDesign)
        → rest ≡ drop (string_sum i.keys k) i.strings → at ≡ p + 36 * k + 44 * string_sum i.keys k → l₁ ≡ sets l p (gather k K)
        → l₂ ≡ sets l₁ at (key_bytes d (λ j. string_at (take s rest) j)) → l₂ ≡ sets l p (gather (k + 1) K)
    key_turn l l₁ l₂ p at s d ed es rest r place e g =
        let same = es ∙ ap (λ (x : KeyDesign). x.strings) ed in
        key_next l l₁ l₂ p (string_sum i.keys k) k at refl place e
        (g ∙ ap (λ (x : KeyDesign). sets l₁ at (key_bytes x (λ j. string_at (take s rest) j))) ed ∙ ap (sets l₁ at) (strings_here s same rest r))

  -- ---- the table

  abbrev P : ℕ → List ℕ
  P k = pair_bytes i (suc k)

  pairs_size : (k : ℕ) → length (gather k P) ≡ 8 * k
  pairs_size k = length_gather P (λ j. 8) (λ j. pair_length (n + 1) S (suc j)) k ∙ sum_same k 8

  start_of : (k : ℕ) → section_start (n + 1) S (suc k) ≡ 88 + 8 * n + 36 * k + 44 * string_sum i.keys k
  unfolding section_start
  start_of k = omega (arith, sections_length i k)

  module _ (l l₁ l₂ : List ℕ) where
    pub pair_next : (offset k : ℕ) → offset ≡ 88 + 8 * n + 36 * k + 44 * string_sum i.keys k → l₁ ≡ sets l 12 (gather k P)
        → l₂ ≡ sets l₁ (12 + 8 * k) (le32 offset ++ le32 (36 + 44 * (key_at i.keys k).strings)) → l₂ ≡ sets l 12 (gather (k + 1) P)
    pair_next offset k place e g =
        gathered_next l l₁ l₂ P k (8 * k) 12 (12 + 8 * k) (pairs_size k) refl e
        (g ∙ ap (λ (x : ℕ). sets l₁ (12 + 8 * k) (le32 x ++ le32 (36 + 44 * (key_at i.keys k).strings))) (place ∙ sym (start_of k))
        ∙ ap (λ (x : ℕ). sets l₁ (12 + 8 * k) (le32 (section_start (n + 1) S (suc k)) ++ le32 x)) (sym (section_length i k)))

    -- the number of sections, the common section's pair and the keys'
    pub table_stored : (l₃ : List ℕ) → l₁ ≡ sets l 0 (le32 (n + 1)) → l₂ ≡ sets l₁ 4 (le32 (12 + 8 * n) ++ le32 76)
        → l₃ ≡ sets l₂ 12 (gather n P) → l₃ ≡ sets l 0 (table_bytes i)
    unfolding table_bytes
    table_stored l₃ e₁ e₂ e₃ =
        stored_then l l₁ l₃ (le32 (n + 1)) (gather (n + 1) (pair_bytes i)) 0 4 4 (length_le32 (n + 1)) refl e₁
        (stored_then l₁ l₂ l₃ (pair_bytes i 0) (gather n P) 4 8 12 (pair_length (n + 1) S 0) refl (e₂ ∙ ap (sets l₁ 4) first_pair) e₃
        ∙ ap (sets l₁ 4) (gather_first n (pair_bytes i) ∙ ap (λ (x : ℕ). gather x (pair_bytes i)) (sym (add-one n))))
      where
        first_pair : le32 (12 + 8 * n) ++ le32 76 ≡ pair_bytes i 0
        first_pair = ap (λ (x : ℕ). le32 x ++ le32 76) first_start ∙ ap (λ (x : ℕ). le32 (section_start (n + 1) S 0) ++ le32 x) (sym first_length)

  pub table_length : length (table_bytes i) ≡ 12 + 8 * n
  unfolding table_bytes
  table_length =
      let a = length-append (le32 (n + 1)) (gather (n + 1) (pair_bytes i)) in
      let b = length_le32 (n + 1) in
      let c = length_gather (pair_bytes i) (λ j. 8) (pair_length (n + 1) S) (n + 1) ∙ sum_same (n + 1) 8 in
      omega arith

  -- the pairs of k keys are stored, and the next section starts at `offset`
  pub record AtPair (room offset k : ℕ) : Type 0 where
    pub passes : valid i ≡ true
    pub space : 12 + 8 * n ≤ room
    pub place : offset ≡ 88 + 8 * n + 36 * k + 44 * string_sum i.keys k
    pub below : k ≤ n

  module _ (room : ℕ) where
    pub pair_none : valid i ≡ true → 12 + 8 * n ≤ room → AtPair room (88 + 8 * n) 0
    pair_none v h = record { passes = v; space = h; place = omega (arith, string_sum_none i.keys); below = omega arith }

    -- what the store of key k's pair needs
    pub record PairFits (offset k : ℕ) : Type 0 where
      pub few : (key_at i.keys k).strings ≤ 3
      pub keys : n ≤ 16
      pub place : 20 + 8 * k ≤ room
      pub ends : offset + (36 + 44 * (key_at i.keys k).strings) ≤ 2200

    module _ (offset k : ℕ) (a : AtPair room offset k) (h : k < n) where
      pub pair_fits : PairFits offset k
      pair_fits = let f = key_bounds k a.passes h in record { few = f.few; keys = f.keys; place = omega arith; ends = omega arith }

      pub pair_on : AtPair room (offset + (36 + 44 * (key_at i.keys k).strings)) (k + 1)
      pair_on = record { passes = a.passes; space = a.space; place = omega (arith, a.place, string_sum_more i.keys k); below = omega arith }
