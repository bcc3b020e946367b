-- What the sum over the keys' counts says of a limit, where it was added up and where that passed 64 bits.
use mathlib.Core.Path.{◌≡◌, sym}
use mathlib.Core.List.{List}
use Prim.Native.Nat.{ℕ, ◌≤◌, ◌<◌, min}
use native.Mathlib.Omega.{arith}
use borrow.Author.Tests.{le-leb, lt-leb}
use Rattle.std.proofs.Common.{⊎_elim}
use lib.ListN.{length}
use Rattle.std.specs.Prelude.{None, Some}
use Rattle.counting.specs.Sums.{sum_of, sum_beyond}
use Rattle.counting.specs.Laws.{lt_or_ge}
use Rattle.score.specs.Contacts.{Totals}

-- the first 16 keys have all the counts there are
pub all_counts : (keys : ℕ) (counts : List ℕ) → length counts ≡ 16 → sum_of (min keys 16) counts ≡ sum_of keys counts
all_counts keys counts long = ⊎_elim few many (lt_or_ge keys 16)
  where
    few : keys < 16 → sum_of (min keys 16) counts ≡ sum_of keys counts
    few h = let e : min keys 16 ≡ keys = omega arith in rw e

    many : 16 ≤ keys → sum_of (min keys 16) counts ≡ sum_of keys counts
    many h = let e : min keys 16 ≡ 16 = omega arith in rw e (sym (sum_beyond counts 16 keys (omega (arith, long)) h))

module _ {keys : ℕ} {counts : List ℕ} {limit : ℕ} where
  pub within : (sum : ℕ) → sum ≡ sum_of keys counts → sum ≤ limit → Totals keys counts limit (Some sum)
  within sum e h = record { within = sym (le-leb (sum_of keys counts) limit (omega (arith, e, h))); sum = e }

  pub beyond : limit < sum_of keys counts → Totals keys counts limit None
  beyond h = record { within = sym (lt-leb (sum_of keys counts) limit h); sum = tt }
