-- Document 01, "Power and root", and document 02, W5. Definitions only: assumes nothing.
use Rattle.std.specs.Prelude.{ℕ, zero, suc, ◌-◌, ◌*◌, cond, ltb, Float}
use Rattle.std.specs.Float.{nan, binary64}
use Rattle.std.specs.Float.Ieee.{mul, lt, is_nan}
use Rattle.float.specs.Float.{zero as +0}
use Rattle.root.specs.Root.{root_of}

-- "For x above 0, the power of h half-steps is x for h = 2, x × root(x) for h = 3, and for h above 3 the power of h − 2 half-steps, times x."
-- No instrument has an h below 2; there it goes as for 2.
unfoldable pub halves_above : Float → ℕ → Float
unfolding mul root_of
halves_above x zero = x
halves_above x (suc zero) = x
halves_above x (suc (suc zero)) = x
halves_above x (suc (suc (suc zero))) = mul binary64 x (root_of x)
halves_above x (suc (suc (suc (suc h)))) = mul binary64 (halves_above x (suc (suc h))) x

-- W5: "the power is x for e = 4, x × root(root(x)) for 5, x × root(x) for 6, (x × root(x)) × root(root(x)) for 7, and
-- above that the power of e − 4, times x." No instrument has an e below 4; there it goes as for 4.
unfoldable pub quarters_above : Float → ℕ → Float
unfolding mul root_of
quarters_above x zero = x
quarters_above x (suc zero) = x
quarters_above x (suc (suc zero)) = x
quarters_above x (suc (suc (suc zero))) = x
quarters_above x (suc (suc (suc (suc zero)))) = x
quarters_above x (suc (suc (suc (suc (suc zero))))) = mul binary64 x (root_of (root_of x))
quarters_above x (suc (suc (suc (suc (suc (suc zero)))))) = mul binary64 x (root_of x)
quarters_above x (suc (suc (suc (suc (suc (suc (suc zero))))))) = mul binary64 (mul binary64 x (root_of x)) (root_of (root_of x))
quarters_above x (suc (suc (suc (suc (suc (suc (suc (suc e)))))))) = mul binary64 (quarters_above x (suc (suc (suc (suc e))))) x

-- W5: "The word h may also be 256 + e": below 256 the word counts halves, from 256 on the quarters above 256
unfoldable pub power_above : Float → ℕ → Float
unfolding halves_above quarters_above
power_above x word = cond (ltb word 256) (halves_above x word) (quarters_above x (word - 256))

-- "NaN gives NaN; other x not above 0 give +0."
unfoldable pub power_of : Float → ℕ → Float
unfolding power_above lt is_nan
power_of x word = cond (lt +0 x) (power_above x word) (cond (is_nan x) nan +0)

-- how many quarters a word names: for an estimate of a force, and for laws of every word
unfoldable pub quarters_of : ℕ → ℕ
quarters_of word = cond (ltb word 256) (2 * word) (word - 256)
