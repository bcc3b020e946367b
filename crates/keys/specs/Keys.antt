-- Document 01, "One sample": "dampers", and of the "bridge" each key's speed, as in `render`. Definitions only.
use Rattle.std.specs.Prelude.{List, Bool, cond, ℕ, get_or, set, replicate, Float}
use Rattle.std.specs.Float.{nan, binary64}
use Rattle.std.specs.Float.Ieee.{add, sub, mul, div, neg}
use Rattle.float.specs.Float.{clamp_of, two, zero as +0}
use Rattle.cells.specs.Numbered.{fold_from}
use Rattle.string.specs.declared.StringDesign.{StringDesign}
use Rattle.keys.specs.declared.KeyConstants.{KeyConstants}

-- key k; what stands past the end of a list is never asked
abbrev pub past_constants : KeyConstants
past_constants = record { weight = nan; r_max = nan; step = nan; divisor = nan }

abbrev pub constants_at : List KeyConstants → ℕ → KeyConstants
constants_at keys k = get_or keys k past_constants

-- a damper goes towards r_max where it is to be down, towards +0 else, by a step at most
unfoldable pub damped_of : KeyConstants → Bool → Float → Float
damped_of key down R = add binary64 R (clamp_of (sub binary64 (cond down key.r_max +0) R) (neg key.step) key.step)

unfoldable pub dampers : List KeyConstants → (ℕ → Bool) → List Float → List Float
dampers keys down R = fold_from (λ k key r. set r k (damped_of key (down k) (get_or r k nan))) 0 keys R

-- each key's sum of its strings' v_in, in the strings' order, from +0
unfoldable pub sums_from : List StringDesign → List Float → List Float → List Float
sums_from ds v a = fold_from (λ i d s. set s d.key (add binary64 (get_or s d.key nan) (get_or v i nan))) 0 ds a

abbrev pub key_sums : List StringDesign → List Float → List Float
key_sums ds v = sums_from ds v (replicate 16 +0)

-- weighted_total, from +0
unfoldable pub weighted_total : List KeyConstants → List Float → Float
weighted_total keys sums = fold_from (λ k key x. add binary64 x (mul binary64 key.weight (get_or sums k nan))) 0 keys +0

-- v_b = 2 yz (s_key + w (weighted_total - w s_key)) / (1 + yz n)
unfoldable pub speed_of : Float → Float → KeyConstants → Float → Float
speed_of yz total key s =
    div binary64 (mul binary64 (mul binary64 two yz) (add binary64 s (mul binary64 key.weight (sub binary64 total (mul binary64 key.weight s))))) key.divisor

unfoldable pub speeds : Float → Float → List KeyConstants → List Float → List Float
speeds yz total keys sums = fold_from (λ k key a. set a k (speed_of yz total key (get_or a k nan))) 0 keys sums

-- each key's v_b, of the strings' v_in
unfoldable pub bridge_speeds : Float → List KeyConstants → List StringDesign → List Float → List Float
bridge_speeds yz keys ds v = speeds yz (weighted_total keys (key_sums ds v)) keys (key_sums ds v)
