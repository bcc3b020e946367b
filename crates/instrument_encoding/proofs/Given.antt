-- What owning a value of the record's types tells: every premise of the laws. Assumes nothing.
use mathlib.Core.Path.{◌≡◌}
use mathlib.Core.List.{List, [], ◌∷◌}
use Prim.Native.Nat.{ℕ, zero, suc, ◌<◌}
use native.Mathlib.Omega.{arith}
use lib.ListN.{length, get_or}
use mir.Val.{Val}
use base.Fml.{Fml}
use denote.Array.{each}
use denote.Floats.{passes}
use denote.Laws.{Is}
use denote.Shadow.{shadow}
use denote.Struct.Declared as Declared
use Rattle.instrument_fields.specs.declared.Common.{Common}
use Rattle.instrument_fields.specs.declared.KeyDesign.{KeyDesign}
use Rattle.instrument_fields.specs.declared.LoopDesign.{LoopDesign}
use Rattle.instrument_fields.specs.contracts.Common as CommonType
use Rattle.instrument_fields.specs.contracts.KeyDesign as KeyType
use Rattle.instrument_fields.specs.contracts.LoopDesign as LoopType
use Rattle.instrument.specs.declared.Instrument.{Instrument}
use Rattle.instrument.specs.contracts.Instrument as InstrumentType
use Rattle.instrument.specs.Valid.{past_key, past_string}
use Rattle.instrument_encoding.specs.Typed.{FitCommon, FitKey, FitString, Typed}

-- an element of an array of structs
each_at : {D : Type 0} (own : D → List Val → Fml) (xs : List D) (us : List Val) → shadow (each D own xs us) → (k : ℕ) (z : D) → k < length xs
    → (v : Val) × shadow (own (get_or xs k z) (v ∷ []))
each_at own [] us g k z h = absurd (omega arith)
each_at own (x ∷ xs) [] g k z h = absurd g
each_at own (x ∷ xs) (u ∷ us) g zero z h = (u, g.0)
each_at own (x ∷ xs) (u ∷ us) g (suc k) z h = each_at own xs us g.1 k z (omega arith)

fit_common : (c : Common) (vs : List Val) → Is (Declared.row CommonType.the_type) c vs → FitCommon c
fit_common c vs g =
    let o = g.1.1 in
    let h = o.1.1.0.1.1 in
    let d = o.1.1.1.1.0.1.1 in
    record {
      fs = passes _ o.0.1;
      z = passes _ o.1.0.1;
      stiffness = passes _ h.0.1;
      eps = passes _ h.1.1.0.1;
      mass = passes _ h.1.1.1.0.1;
      tau = passes _ h.1.1.1.1.0.1;
      yz = passes _ o.1.1.1.0.1;
      rho = passes _ d.0.1;
      ramp = passes _ d.1.0.1;
    }

fit_key : (k : KeyDesign) (vs : List Val) → Is (Declared.row KeyType.the_type) k vs → FitKey k
fit_key k vs g =
    let o = g.1.1 in
    let floats = o.1.1.1 in
    record {
      key = o.0.1;
      weight = passes _ floats.0.1;
      scale = passes _ floats.1.0.1;
      strike = passes _ floats.1.1.0.1;
      damper = passes _ floats.1.1.1.0.1;
    }

fit_string : (s : LoopDesign) (vs : List Val) → Is (Declared.row LoopType.the_type) s vs → FitString s
fit_string s vs g =
    let floats = g.1.1.1.1 in
    record {
      phi = passes _ floats.0.1;
      thiran = passes _ floats.1.0.1;
      ap = passes _ floats.1.1.0.1;
      gain = passes _ floats.1.1.1.0.1;
      corner = passes _ floats.1.1.1.1.0.1;
    }

pub typed : (i : Instrument) (vs : List Val) → Is (Declared.row InstrumentType.the_type) i vs → Typed i
typed i vs g =
    let o = g.1.1 in
    let keys = o.1.1.1.0.1 in
    let strings = o.1.1.1.1.0.1 in
    let keys_long : length i.keys ≡ 16 = keys.0.1 in
    let strings_long : length i.strings ≡ 32 = strings.0.1 in
    record {
      common = fit_common i.common _ o.0;
      keys_long = keys_long;
      strings_long = strings_long;
      key = λ k h. fit_key _ _ (each_at (KeyType.the_row).own_val i.keys _ keys.1 k past_key (omega arith)).1;
      string = λ j h. fit_string _ _ (each_at (LoopType.the_row).own_val i.strings _ strings.1 j past_string (omega arith)).1;
    }
