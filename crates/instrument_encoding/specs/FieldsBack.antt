-- What is read from the bytes of a record is the record. Assumes nothing.
use Rattle.std.specs.Prelude.{◌≡◌, refl, Bool, true, false, cond, List, [], ◌++◌, ℕ, eqb, Float}
use Rattle.std.proofs.Common.{sym, ap, ◌∙◌, arith, leb-true, eqb-true}
use Rattle.std.specs.Float.{binary64}
use Rattle.std.specs.Float.Ieee.{of_bits, to_bits, of_int}
use Rattle.std.specs.Float.Ieee.Bits.{of_bits-to_bits}
use Rattle.std.proofs.lemmas.Bool.{not-true}
use Rattle.little_endian.specs.Numbers.{u16_at, u32_at, u64_at, f64_at, le16, le32, le64, le_f64}
use Rattle.little_endian.specs.Bytes.{u16_back, u32_back, f64_back}
use Rattle.instrument_fields.specs.declared.Common.{Common}
use Rattle.instrument_fields.specs.declared.KeyDesign.{KeyDesign}
use Rattle.instrument_fields.specs.declared.LoopDesign.{LoopDesign}
use Rattle.counting.specs.Every.{holds}
use Rattle.instrument_fields.specs.Fields.{hammer_of, damper_of, common_of, key_of, loop_of}
use Rattle.instrument_fields.specs.Ranges.{of_whole, hammer_in_range, common_in_range, string_in_range}
use Rattle.instrument_fields.specs.Unused.{is_plus_zero, is_no_key, is_no_string, no_key, no_string}
use Rattle.instrument_encoding.specs.Encode.{common_bytes, string_bytes, four_bytes, head_bytes}
use Rattle.little_endian.specs.Floats.{Fit}
use Rattle.instrument_encoding.specs.InRange.{exponent_small}
use Rattle.instrument_encoding.specs.Typed.{FitCommon, FitKey, FitString}

-- ---- each record from its bytes: the path from one record to the other goes field by field

pub string_back : (s : LoopDesign) (r : List ℕ) → FitString s → string_in_range s ≡ true → loop_of (string_bytes s ++ r) ≡ s
unfolding loop_of string_bytes string_in_range f64_at u64_at u32_at u16_at le_f64 le64 le32 le16
string_back s r t k =
    let short = leb-true s.n 2000 (holds _ k 1) in
    let few = leb-true s.ap_count 66 (holds _ k 2) in
    λ i. record {
      n = u16_back s.n [] (omega arith) i;
      ap_count = u16_back s.ap_count [] (omega arith) i;
      phi = f64_back s.phi [] t.phi i;
      thiran_a = f64_back s.thiran_a [] t.thiran i;
      ap_a = f64_back s.ap_a [] t.ap i;
      loss_g = f64_back s.loss_g [] t.gain i;
      loss_c = f64_back s.loss_c [] t.corner i;
    }

flag_back : (d : Bool) → eqb (cond d 1 0) 1 ≡ d
flag_back true = refl
flag_back false = refl

pub key_back : (k : KeyDesign) (r : List ℕ) → FitKey k → key_of (head_bytes k ++ r) ≡ k
unfolding key_of head_bytes four_bytes f64_at u64_at u32_at u16_at le_f64 le64 le32 le16
key_back k r t = λ i. record {
  key = k.key;
  has_damper = flag_back k.has_damper i;
  strings = k.strings;
  weight = f64_back k.weight [] t.weight i;
  damper_scale = f64_back k.damper_scale [] t.scale i;
  strike_ratio = f64_back k.strike_ratio [] t.strike i;
  damper_ratio = f64_back k.damper_ratio [] t.damper i;
}

pub common_back : (c : Common) (r : List ℕ) → FitCommon c → common_in_range c ≡ true → common_of (common_bytes c ++ r) ≡ c
unfolding common_of hammer_of damper_of common_bytes common_in_range hammer_in_range f64_at u64_at u32_at u16_at le_f64 le64 le32 le16
common_back c r t k =
    let small = exponent_small c.hammer.exponent (holds _ (holds _ k 2) 4) in
    λ i. record {
      fs = f64_back c.fs [] t.fs i;
      z = f64_back c.z [] t.z i;
      hammer = record {
        stiffness = f64_back c.hammer.stiffness [] t.stiffness i;
        exponent = u32_back c.hammer.exponent [] (omega arith) i;
        eps = f64_back c.hammer.eps [] t.eps i;
        mass = f64_back c.hammer.mass [] t.mass i;
        tau = f64_back c.hammer.tau [] t.tau i;
      };
      yz = f64_back c.yz [] t.yz i;
      damper = record { rho = f64_back c.damper.rho [] t.rho i; ramp_s = f64_back c.damper.ramp_s [] t.ramp i };
    }

-- ---- a place that passes as unused holds zeros

zero_is : (x : Float) → Fit x → is_plus_zero x ≡ true → x ≡ of_whole 0
unfolding is_plus_zero of_bits of_int
zero_is x t h = sym (of_bits-to_bits binary64 x t) ∙ ap (of_bits binary64) (eqb-true (to_bits binary64 x) 0 h)

pub no_key_lem : (k : KeyDesign) → FitKey k → is_no_key k ≡ true → k ≡ no_key
unfolding is_no_key
no_key_lem k t h =
    let e = holds _ h in
    λ i. record {
      key = eqb-true k.key 0 (e 0) i;
      has_damper = not-true k.has_damper (e 1) i;
      strings = eqb-true k.strings 0 (e 2) i;
      weight = zero_is k.weight t.weight (e 3) i;
      damper_scale = zero_is k.damper_scale t.scale (e 4) i;
      strike_ratio = zero_is k.strike_ratio t.strike (e 5) i;
      damper_ratio = zero_is k.damper_ratio t.damper (e 6) i;
    }

pub no_string_lem : (s : LoopDesign) → FitString s → is_no_string s ≡ true → s ≡ no_string
unfolding is_no_string
no_string_lem s t h =
    let e = holds _ h in
    λ i. record {
      n = eqb-true s.n 0 (e 0) i;
      ap_count = eqb-true s.ap_count 0 (e 1) i;
      phi = zero_is s.phi t.phi (e 2) i;
      thiran_a = zero_is s.thiran_a t.thiran (e 3) i;
      ap_a = zero_is s.ap_a t.ap (e 4) i;
      loss_g = zero_is s.loss_g t.gain (e 5) i;
      loss_c = zero_is s.loss_c t.corner (e 6) i;
    }
