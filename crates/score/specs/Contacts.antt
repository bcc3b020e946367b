-- Document 02, W2: "a count for each key in place of the one count". The sum over an instrument's keys, which titles follow: places past them decide nothing. And the key of the
-- hammer, which a sample in contact counts for. Definitions only.
use Rattle.std.specs.Prelude.{◌≡◌, Bool, true, List, ℕ, leb, ltb, Option, None, Some, is_some, IfSome}
use Rattle.counting.specs.Sums.{sum_of}
use Rattle.points.specs.declared.Flight.{Flight}
use Rattle.score.specs.declared.Piano.{Piano}

-- the contact samples of all keys, of an instrument with so many
unfoldable pub contacts_of : ℕ → Piano → ℕ
contacts_of keys p = sum_of keys p.contact_samples

-- whether the hammer, if one flies, is on one of so many keys
unfoldable pub hammer_on : ℕ → Option Flight → Bool
hammer_on keys None = true
hammer_on keys (Some h) = ltb h.key_index keys

-- what the code finds of such counts' sum and a limit: the sum where it is within the limit, and nothing where it is not
pub record Totals (keys : ℕ) (counts : List ℕ) (limit : ℕ) (r : Option ℕ) : Type 0 where
  pub within : is_some r ≡ leb (sum_of keys counts) limit
  pub sum : IfSome r (λ s. s ≡ sum_of keys counts)
