-- The values of a place of the record that holds no key or no string, and of a refused file's record: zeros (+0, false). Definitions only: assumes nothing.
use Rattle.std.specs.Prelude.{Bool, false, not, [], ◌∷◌, eqb, Float}
use Rattle.std.specs.Float.{binary64}
use Rattle.std.specs.Float.Ieee.{to_bits}
use Rattle.hammer.specs.declared.Hammer.{Hammer}
use Rattle.instrument_fields.specs.declared.Common.{Common}
use Rattle.instrument_fields.specs.declared.KeyDesign.{KeyDesign}
use Rattle.instrument_fields.specs.declared.LoopDesign.{LoopDesign}
use Rattle.counting.specs.Every.{every}
use Rattle.instrument_fields.specs.Ranges.{of_whole}

abbrev pub no_key : KeyDesign
no_key = record { key = 0; has_damper = false; strings = 0; weight = of_whole 0; damper_scale = of_whole 0; strike_ratio = of_whole 0; damper_ratio = of_whole 0 }

abbrev pub no_string : LoopDesign
no_string = record { n = 0; ap_count = 0; phi = of_whole 0; thiran_a = of_whole 0; ap_a = of_whole 0; loss_g = of_whole 0; loss_c = of_whole 0 }

abbrev pub no_hammer : Hammer
no_hammer = record { stiffness = of_whole 0; exponent = 0; eps = of_whole 0; mass = of_whole 0; tau = of_whole 0 }

abbrev pub no_common : Common
no_common = record { fs = of_whole 0; z = of_whole 0; hammer = no_hammer; yz = of_whole 0; damper = record { rho = of_whole 0; ramp_s = of_whole 0 } }

-- the tests for them. The pattern tells +0 from −0
unfoldable pub is_plus_zero : Float → Bool
is_plus_zero x = eqb (to_bits binary64 x) 0

unfoldable pub is_no_key : KeyDesign → Bool
is_no_key k =
    every
    (eqb k.key 0
    ∷ not k.has_damper
    ∷ eqb k.strings 0
    ∷ is_plus_zero k.weight
    ∷ is_plus_zero k.damper_scale
    ∷ is_plus_zero k.strike_ratio
    ∷ is_plus_zero k.damper_ratio
    ∷ [])

unfoldable pub is_no_string : LoopDesign → Bool
is_no_string s =
    every
    (eqb s.n 0
    ∷ eqb s.ap_count 0
    ∷ is_plus_zero s.phi
    ∷ is_plus_zero s.thiran_a
    ∷ is_plus_zero s.ap_a
    ∷ is_plus_zero s.loss_g
    ∷ is_plus_zero s.loss_c
    ∷ [])
