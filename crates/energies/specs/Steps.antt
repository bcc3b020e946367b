-- The one walk over the strings, which keeps all keys' sums: what it makes of them, and the pairs made of these. Definitions only: assumes nothing.
use Rattle.std.specs.Prelude.{List, ℕ, get_or, set, Float}
use Rattle.std.specs.Float.{nan, binary64}
use Rattle.std.specs.Float.Ieee.{add}
use Rattle.cells.specs.Fold.{fold_parts}
use Rattle.instrument.specs.declared.Instrument.{Instrument}
use Rattle.instrument.specs.Valid.{key_at}
use Rattle.string.specs.declared.StringDesign.{StringDesign}
use Rattle.string.specs.String.{size_of}
use Rattle.energies.specs.declared.KeyEnergy.{KeyEnergy}
use Rattle.energies.specs.Energy.{string_energy}

-- a string's energy is added to its key's sum
abbrev pub summed_into : ℕ → StringDesign → List Float → List Float → List Float
summed_into i d p sums = set sums d.key (add binary64 (get_or sums d.key nan) (string_energy d p))

unfoldable pub sums_after : List StringDesign → List Float → List Float → List Float
sums_after ds cells sums = fold_parts size_of summed_into 0 ds cells sums

abbrev pub pair_of : Instrument → List Float → ℕ → KeyEnergy
pair_of i sums k = record { key = (key_at i.keys k).key; energy = get_or sums k nan }
