-- An instrument's strings can sound: each has a cell in every line, by the cuts' clamps, and is of a key that is there; filled tables are the model.
use Rattle.std.specs.Prelude.{◌≡◌, ℕ, zero, suc, ◌+◌, ◌-◌, ◌<◌, ◌≤◌, Bool, true, false, cond, List, nat_lt, refl, length, take}
use Rattle.std.proofs.Common.{◌∙◌, arith, zero-add}
use Rattle.cuts.specs.Laws.{cuts_sum}
use lib.ListN.{length-take}
use lib.Seq.{get_or-take}
use Rattle.cells.specs.Numbered.{list_from, list_length, list_at}
use Rattle.instrument.specs.declared.Instrument.{Instrument}
use Rattle.instrument.specs.Valid as valid
use Rattle.string.specs.String.{HasLines}
use Rattle.string.specs.declared.StringDesign.{StringDesign}
use Rattle.string.specs.Table.{past_design, design_at, list_is}
use Rattle.strings.specs.Strings.{Keyed, AllFit}
use Rattle.keys.specs.declared.KeyConstants.{KeyConstants}
use Rattle.keys.specs.Keys.{past_constants}
use Rattle.points.specs.declared.Constants.{Constants}
use Rattle.sample.specs.Sample.{Model}
use Rattle.sample_constants.specs.Model.{constants_of, owner_of, owner_in, string_of, string_in, key_in, strings_of, model_of, KeysFilled, StringsFilled}

-- the search for a string's key ends at one of the keys, or at 0
owner_below : (count : ℕ → ℕ) (k n j m : ℕ) → 0 < m → k + n ≤ m → owner_of count k n j < m
unfolding owner_of
owner_below count k zero j m p h = p
owner_below count k (suc n) j m p h = by_test (nat_lt j (count k)) (owner_below count (k + 1) n (j - count k) m p (omega arith)) where
  by_test : (b : Bool) → owner_of count (k + 1) n (j - count k) < m → cond b k (owner_of count (k + 1) n (j - count k)) < m
  by_test true r = omega arith
  by_test false r = r

-- counts that agree on the keys there are give the same
pub owner_same : (f g : ℕ → ℕ) (k n j : ℕ) → ((i : ℕ) → i < k + n → f i ≡ g i) → owner_of f k n j ≡ owner_of g k n j
unfolding owner_of
owner_same f g k zero j h = refl
owner_same f g k (suc n) j h = rw (h k (omega arith), owner_same f g (k + 1) n (j - g k) (λ i q. h i (omega arith)))

pub owner_fits : (i : Instrument) (j : ℕ) → i.key_count ≤ 16 → owner_in i j < 16
owner_fits i j h = owner_below (λ k. (valid.key_at i.keys k).strings) 0 i.key_count j 16 (omega arith) (omega arith)

-- an instrument's string has a cell in every line
pub string_sound : (i : Instrument) (j : ℕ) → HasLines (string_in i j)
unfolding string_in string_of
string_sound i j =
    let l = valid.string_at i.strings j in
    let key = valid.key_at i.keys (owner_in i j) in
    let s = cuts_sum l.n l.phi key.strike_ratio key.damper_ratio in
    record { a = s.a; b = s.b; c = s.c }

string_key : (i : Instrument) (j : ℕ) → (string_in i j).key ≡ owner_in i j
unfolding string_in string_of
string_key i j = refl

-- the strings of an instrument can sound
pub strings_fit : (i : Instrument) → i.key_count ≤ 16 → i.string_count ≤ 32 → AllFit (strings_of i)
strings_fit i few most = record { few = rw (list_length (string_in i) 0 i.string_count) most; each = each }
  where
    each : (j : ℕ) → j < length (strings_of i) → Keyed (design_at (strings_of i) j)
    each j h =
        let below : j < i.string_count = rw (list_length (string_in i) 0 i.string_count) at h in
        let r : Keyed (string_in i j) = record { sound = string_sound i j; key = rw (string_key i j) (owner_fits i j few) } in
        rw (list_at (string_in i) 0 i.string_count j past_design below, zero-add j) r

-- a filled table holds strings that can sound
pub filled_fit : (i : Instrument) (designs : List StringDesign) → i.key_count ≤ 16 → StringsFilled i designs → i.string_count ≤ 32
    → AllFit (take i.string_count designs)
filled_fit i designs few f most = record { few = simp length-take (omega arith); each = each }
  where
    each : (j : ℕ) → j < length (take i.string_count designs) → Keyed (design_at (take i.string_count designs) j)
    each j h =
        let below : j < i.string_count = let k = simp length-take at h in omega (arith, k) in
        let r : Keyed (string_in i j) = record { sound = string_sound i j; key = rw (string_key i j) (owner_fits i j few) } in
        rw (get_or-take i.string_count designs j past_design below, f.each j below) r

-- and has the instrument's strings in front
pub filled_strings : (i : Instrument) (designs : List StringDesign) → length designs ≡ 32 → i.string_count ≤ 32
    → StringsFilled i designs → take i.string_count designs ≡ strings_of i
filled_strings i designs long most f =
    list_is (string_in i) i.string_count (take i.string_count designs) past_design (simp length-take (omega (arith, long)))
    (λ k h. get_or-take i.string_count designs k past_design h ∙ f.each k h)

-- and of keys, the keys
pub filled_keys : (i : Instrument) (keys : List KeyConstants) → length keys ≡ 16 → i.key_count ≤ 16 → KeysFilled i keys
    → take i.key_count keys ≡ list_from (key_in i) 0 i.key_count
filled_keys i keys long most f =
    list_is (key_in i) i.key_count (take i.key_count keys) past_constants (simp length-take (omega (arith, long)))
    (λ k h. get_or-take i.key_count keys k past_constants h ∙ f.each k h)

-- so filled tables are the model
module _ (i : Instrument) {constants : Constants} {keys : List KeyConstants} {designs : List StringDesign}
    (few : i.key_count ≤ 16) (most : i.string_count ≤ 32) where
  pub filled_model : constants ≡ constants_of i.common → length keys ≡ 16 → KeysFilled i keys → length designs ≡ 32 → StringsFilled i designs
      → ◌≡◌ {A = Model} (record { constants = constants; keys = take i.key_count keys; strings = take i.string_count designs }) (model_of i)
  filled_model e long k wide d = rw (e, filled_keys i keys long few k, filled_strings i designs wide most d)
