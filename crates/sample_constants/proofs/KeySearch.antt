-- The search for the key that a string belongs to, turn by turn: what is left to search gives what the whole search gives.
use Rattle.std.proofs.Common.{◌≡◌, ℕ, suc, ◌+◌, ◌-◌, ◌<◌, ◌≤◌, sym, ap, ◌∙◌, arith, le-ltb, lt-ltb}
use native.Mathlib.Nat.{sub-zero}
use lib.ListN.{length, take, length-take}
use lib.Seq.{get_or-take}
use Rattle.instrument_fields.specs.declared.KeyDesign.{KeyDesign}
use Rattle.instrument.specs.declared.Instrument.{Instrument}
use Rattle.instrument.specs.Valid.{past_key, key_at}
use Rattle.sample_constants.specs.Model.{owner_of, owner_in}
use Rattle.sample_constants.specs.Laws.{owner_same}

-- the search for string j's key, at key k with j' strings left to pass
module _ (count : ℕ → ℕ) (n j : ℕ) where
  pub record Passing (j' k : ℕ) : Type 0 where
    pub below : k ≤ n
    pub rest : owner_of count k (n - k) j' ≡ owner_of count 0 n j

  pub passing_start : Passing j 0
  passing_start = record { below = omega arith; rest = ap (λ (m : ℕ). owner_of count 0 m j) (sub-zero n) }

  module _ (j' k : ℕ) (p : Passing j' k) (h : k < n) where
    left_is : n - k ≡ suc (n - (k + 1))
    left_is = omega arith

    pub passing_found : j' < count k → k ≡ owner_of count 0 n j
    unfolding owner_of
    passing_found e = let q : owner_of count k (n - k) j' ≡ k = rw (left_is, lt-ltb j' (count k) e) in sym q ∙ p.rest

    pub passing_turn : count k ≤ j' → Passing (j' - count k) (k + 1)
    unfolding owner_of
    passing_turn e =
        let q : owner_of count k (n - k) j' ≡ owner_of count (k + 1) (n - (k + 1)) (j' - count k) = rw (left_is, le-ltb j' (count k) e) in
        record { below = omega arith; rest = sym q ∙ p.rest }

  pub passing_end : (j' k : ℕ) → Passing j' k → n ≤ k → 0 ≡ owner_of count 0 n j
  unfolding owner_of
  passing_end j' k p h =
      let z : n - k ≡ 0 = omega arith in
      let q : owner_of count k (n - k) j' ≡ 0 = rw z in
      sym q ∙ p.rest

-- the keys that are lent, those in use, are searched as the record's are
pub owner_lent : (i : Instrument) (j : ℕ) → length i.keys ≡ 16 → i.key_count ≤ 16
    → owner_of (λ k. (key_at (take i.key_count i.keys) k).strings) 0 (length (take i.key_count i.keys)) j ≡ owner_in i j
owner_lent i j long few =
    let n : length (take i.key_count i.keys) ≡ i.key_count = simp length-take (omega (arith, long)) in
    rw n
    (owner_same (λ k. (key_at (take i.key_count i.keys) k).strings) (λ k. (key_at i.keys k).strings) 0 i.key_count j
    (λ k h. ap (λ (key : KeyDesign). key.strings) (get_or-take i.key_count i.keys k past_key (omega (arith, h)))))
