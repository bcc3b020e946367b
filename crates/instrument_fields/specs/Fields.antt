-- Document 01, "Instrument file": where each field stands in the bytes of its section. Definitions only: assumes nothing.
use Rattle.std.specs.Prelude.{ℕ, List, eqb}
use Rattle.little_endian.specs.Numbers.{byte_at, u16_at, u32_at, f64_at}
use Rattle.hammer.specs.declared.Hammer.{Hammer}
use Rattle.instrument_fields.specs.declared.Damper.{Damper}
use Rattle.instrument_fields.specs.declared.Common.{Common}
use Rattle.instrument_fields.specs.declared.KeyDesign.{KeyDesign}
use Rattle.instrument_fields.specs.declared.LoopDesign.{LoopDesign}

-- "Section 0 is common, 76 bytes: f64 fs, z and mass, stiffness, eps, tau, yz, rho, ramp_s; then u32 h, the exponent in halves"; "Stiffness, exponent, eps, mass and tau make the
-- hammer record."
unfoldable pub hammer_of : List ℕ → Hammer
hammer_of b = record { stiffness = f64_at b 24; exponent = u32_at b 72; eps = f64_at b 32; mass = f64_at b 16; tau = f64_at b 40 }

unfoldable pub damper_of : List ℕ → Damper
damper_of b = record { rho = f64_at b 56; ramp_s = f64_at b 64 }

unfoldable pub common_of : List ℕ → Common
common_of b = record { fs = f64_at b 0; z = f64_at b 8; hammer = hammer_of b; yz = f64_at b 48; damper = damper_of b }

-- "bytes key, has_damper, string count s, 0; f64 weight, damper_scale, strike_ratio, damper_ratio"
unfoldable pub key_of : List ℕ → KeyDesign
key_of b = record {
  key = byte_at b 0;
  has_damper = eqb (byte_at b 1) 1;
  strings = byte_at b 2;
  weight = f64_at b 4;
  damper_scale = f64_at b 12;
  strike_ratio = f64_at b 20;
  damper_ratio = f64_at b 28;
}

-- "u16 n, u16 ap_count, f64 φ, thiran_a and ap_a, loss_g, loss_c"
unfoldable pub loop_of : List ℕ → LoopDesign
loop_of b = record {
  n = u16_at b 0;
  ap_count = u16_at b 2;
  phi = f64_at b 4;
  thiran_a = f64_at b 12;
  ap_a = f64_at b 20;
  loss_g = f64_at b 28;
  loss_c = f64_at b 36;
}
