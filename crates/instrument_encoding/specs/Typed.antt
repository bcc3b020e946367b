-- What every value of the record's types has, and a definition alone cannot see: its floats are f64s, its key numbers bytes, its arrays as long as declared. Definitions only: assumes
-- nothing.
use Rattle.std.specs.Prelude.{◌≡◌, ℕ, ◌<◌, length}
use Rattle.little_endian.specs.Floats.{Fit}
use Rattle.instrument_fields.specs.declared.Common.{Common}
use Rattle.instrument_fields.specs.declared.KeyDesign.{KeyDesign}
use Rattle.instrument_fields.specs.declared.LoopDesign.{LoopDesign}
use Rattle.instrument.specs.declared.Instrument.{Instrument}
use Rattle.instrument.specs.Valid.{key_at, string_at}

pub record FitCommon (c : Common) : Type 0 where
  pub fs : Fit c.fs
  pub z : Fit c.z
  pub mass : Fit c.hammer.mass
  pub stiffness : Fit c.hammer.stiffness
  pub eps : Fit c.hammer.eps
  pub tau : Fit c.hammer.tau
  pub yz : Fit c.yz
  pub rho : Fit c.damper.rho
  pub ramp : Fit c.damper.ramp_s

pub record FitKey (k : KeyDesign) : Type 0 where
  pub key : k.key < 256
  pub weight : Fit k.weight
  pub scale : Fit k.damper_scale
  pub strike : Fit k.strike_ratio
  pub damper : Fit k.damper_ratio

pub record FitString (s : LoopDesign) : Type 0 where
  pub phi : Fit s.phi
  pub thiran : Fit s.thiran_a
  pub ap : Fit s.ap_a
  pub gain : Fit s.loss_g
  pub corner : Fit s.loss_c

pub record Typed (i : Instrument) : Type 0 where
  pub common : FitCommon i.common
  pub keys_long : length i.keys ≡ 16
  pub strings_long : length i.strings ≡ 32
  pub key : (k : ℕ) → k < 16 → FitKey (key_at i.keys k)
  pub string : (j : ℕ) → j < 32 → FitString (string_at i.strings j)
