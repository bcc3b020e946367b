-- Document 01, "Instrument file": the ranges of the fields; "Ends count unless said." A comparison with NaN is false, so that NaN is in no range, and an infinity lies past an end of
-- each. −0 counts as 0. Definitions only: assumes nothing.
use Rattle.std.specs.Prelude.{ℕ, ◌+◌, Bool, false, ◌&&◌, ◌||◌, [], ◌∷◌, pos, negsuc, leb, Float}
use Rattle.std.specs.Float.{fin, binary64}
use Rattle.std.specs.Float.Ieee.{le, lt, of_int, neg}
use Rattle.hammer.specs.declared.Hammer.{Hammer}
use Rattle.instrument_fields.specs.declared.Common.{Common}
use Rattle.instrument_fields.specs.declared.KeyDesign.{KeyDesign}
use Rattle.instrument_fields.specs.declared.LoopDesign.{LoopDesign}
use Rattle.counting.specs.Every.{every}

-- the float of a whole number, and 2 ^ -20
abbrev pub of_whole : ℕ → Float
of_whole n = of_int binary64 (pos n)

abbrev pub least : Float
least = fin false 1 (negsuc 19)

-- ends counted
unfoldable pub within : Float → Float → Float → Bool
within low x high = le low x && le x high

-- "strictly between"
unfoldable pub strictly_between : Float → Float → Float → Bool
strictly_between low x high = lt low x && lt x high

-- "h, the exponent in halves, 2 to 10"; document 02, W5: "The word h may also be 256 + e, e from 4 to 20 quarters; other words fall under refusal 4"
unfoldable pub exponent_in_range : ℕ → Bool
exponent_in_range word = (leb 2 word && leb word 10) || (leb (256 + 4) word && leb word (256 + 20))

-- "mass (2^-20 to 1,000), stiffness (0 to 10^15), eps, tau (each 0 to 1)", and the exponent
unfoldable pub hammer_in_range : Hammer → Bool
hammer_in_range h =
    every
    (within least h.mass (of_whole 1000)
    ∷ within (of_whole 0) h.stiffness (of_whole 1000000000000000)
    ∷ within (of_whole 0) h.eps (of_whole 1)
    ∷ within (of_whole 0) h.tau (of_whole 1)
    ∷ exponent_in_range h.exponent
    ∷ [])

-- "fs (1,000 to 400,000), z (2^-20 to 1,000), yz (0 to 1), rho (0 to 1,000), ramp_s (0 to 100)", with the hammer's
unfoldable pub common_in_range : Common → Bool
common_in_range c =
    every
    (within (of_whole 1000) c.fs (of_whole 400000)
    ∷ within least c.z (of_whole 1000)
    ∷ hammer_in_range c.hammer
    ∷ within (of_whole 0) c.yz (of_whole 1)
    ∷ within (of_whole 0) c.damper.rho (of_whole 1000)
    ∷ within (of_whole 0) c.damper.ramp_s (of_whole 100)
    ∷ [])

-- "string count s (1 to 3); f64 weight (0 to 100), damper_scale (0 to 1,000), strike_ratio, damper_ratio (0 to 1)"
unfoldable pub key_in_range : KeyDesign → Bool
key_in_range k =
    every
    (leb 1 k.strings
    ∷ leb k.strings 3
    ∷ within (of_whole 0) k.weight (of_whole 100)
    ∷ within (of_whole 0) k.damper_scale (of_whole 1000)
    ∷ within (of_whole 0) k.strike_ratio (of_whole 1)
    ∷ within (of_whole 0) k.damper_ratio (of_whole 1)
    ∷ [])

-- "u16 n (4 to 2,000), u16 ap_count (0 to 66), f64 φ (0 to 4,096), thiran_a and ap_a (strictly between −1 and 1), loss_g (0 to 2), loss_c (0 to below 1)"
unfoldable pub string_in_range : LoopDesign → Bool
string_in_range s =
    every
    (leb 4 s.n
    ∷ leb s.n 2000
    ∷ leb s.ap_count 66
    ∷ within (of_whole 0) s.phi (of_whole 4096)
    ∷ strictly_between (neg (of_whole 1)) s.thiran_a (of_whole 1)
    ∷ strictly_between (neg (of_whole 1)) s.ap_a (of_whole 1)
    ∷ within (of_whole 0) s.loss_g (of_whole 2)
    ∷ le (of_whole 0) s.loss_c
    ∷ lt s.loss_c (of_whole 1)
    ∷ [])
