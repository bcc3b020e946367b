-- What document 01's rules compute from the instrument's record, in the Rust's order of operations: `dt`, `2.0 * z`, `r_base`, `ramp` and the like of
-- `render`, the cuts of `StringWg::new`, and the key that a string belongs to (`key_of_offset`). Definitions only.
use Rattle.std.specs.Prelude.{◌≡◌, ℕ, zero, suc, ◌+◌, ◌-◌, ◌<◌, cond, List, pos, nat_lt}
use Rattle.std.specs.Float.{binary64}
use Rattle.std.specs.Float.Ieee.{add, mul, div, of_int}
use Rattle.float.specs.Float.{min_of, max_of, one, two}
use Rattle.cuts.specs.Cuts.{cuts_of}
use Rattle.cells.specs.Numbered.{list_from}
use Rattle.instrument_fields.specs.declared.Common.{Common}
use Rattle.instrument_fields.specs.declared.KeyDesign.{KeyDesign}
use Rattle.instrument_fields.specs.declared.LoopDesign.{LoopDesign}
use Rattle.instrument.specs.declared.Instrument.{Instrument}
use Rattle.instrument.specs.Valid as valid
use Rattle.string.specs.declared.StringDesign.{StringDesign}
use Rattle.string.specs.Table.{design_at}
use Rattle.points.specs.declared.Constants.{Constants}
use Rattle.keys.specs.declared.KeyConstants.{KeyConstants}
use Rattle.keys.specs.Keys.{constants_at}
use Rattle.sample.specs.Sample.{Model}

-- dt = 1 / fs, and 2 z
unfoldable pub constants_of : Common → Constants
constants_of c = record { dt = div binary64 one c.fs; z = c.z; two_z = mul binary64 two c.z; yz = c.yz; hammer = c.hammer }

-- r_base = rho 2 z, ramp = max(ramp_s fs, 1), r_max = min(r_base damper_scale, 2 z), and 1 + yz n for n strings
unfoldable pub key_constants : Common → KeyDesign → KeyConstants
key_constants c key =
    let r_base = mul binary64 (mul binary64 c.damper.rho two) c.z in
    let ramp = max_of (mul binary64 c.damper.ramp_s c.fs) one in
    let r_max = min_of (mul binary64 r_base key.damper_scale) (mul binary64 two c.z) in
    record {
      weight = key.weight;
      r_max = r_max;
      step = div binary64 r_max ramp;
      divisor = add binary64 one (mul binary64 c.yz (of_int binary64 (pos key.strings)));
    }

-- the key that string j belongs to, of n keys from k on that have `count k` strings each, in order
unfoldable pub owner_of : (ℕ → ℕ) → ℕ → ℕ → ℕ → ℕ
owner_of count k zero j = 0
owner_of count k (suc n) j = cond (nat_lt j (count k)) k (owner_of count (k + 1) n (j - count k))

-- a string of key k
unfoldable pub string_of : LoopDesign → KeyDesign → ℕ → StringDesign
string_of l key k =
    let cuts = cuts_of l.n l.phi key.strike_ratio key.damper_ratio in
    record {
      na = cuts.na;
      nb = cuts.nb;
      nc = cuts.nc;
      ap_count = l.ap_count;
      key = k;
      filter = record { thiran_a = l.thiran_a; ap_a = l.ap_a; loss_g = l.loss_g; loss_c = l.loss_c };
    }

-- string j and key k of an instrument
abbrev pub owner_in : Instrument → ℕ → ℕ
owner_in i j = owner_of (λ k. (valid.key_at i.keys k).strings) 0 i.key_count j

unfoldable pub string_in : Instrument → ℕ → StringDesign
string_in i j = string_of (valid.string_at i.strings j) (valid.key_at i.keys (owner_in i j)) (owner_in i j)

unfoldable pub key_in : Instrument → ℕ → KeyConstants
key_in i k = key_constants i.common (valid.key_at i.keys k)

abbrev pub strings_of : Instrument → List StringDesign
strings_of i = list_from (string_in i) 0 i.string_count

-- all that the samples are computed with
abbrev pub model_of : Instrument → Model
model_of i = record { constants = constants_of i.common; keys = list_from (key_in i) 0 i.key_count; strings = strings_of i }

-- what the tables hold
pub record KeysFilled (i : Instrument) (keys : List KeyConstants) : Type 0 where
  pub each : (k : ℕ) → k < i.key_count → constants_at keys k ≡ key_in i k

pub record StringsFilled (i : Instrument) (designs : List StringDesign) : Type 0 where
  pub each : (j : ℕ) → j < i.string_count → design_at designs j ≡ string_in i j
