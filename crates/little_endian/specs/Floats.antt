-- What every f64 has and a definition alone cannot see: it is a value of the format. Definitions only: assumes nothing.
use Rattle.std.specs.Prelude.{T, Float}
use Rattle.std.specs.Float.{binary64}
use Rattle.std.specs.Float.Ieee.{fits}

abbrev pub Fit : Float → Type 0
Fit x = T (fits binary64 x)
