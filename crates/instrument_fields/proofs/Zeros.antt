-- +0 by its pattern, and records by their fields. Assumes nothing.
use mathlib.Core.Path.{◌≡◌, sym, ap, ◌∙◌, subst}
use mathlib.Core.Bool.{true, false, not}
use lib.Dec.{T}
use lib.Ieee.{Float, nan, inf, fin, binary64, is_nan, eq, fits, of_bits, to_bits}
use lib.Ieee.Bits.{of_bits-to_bits}
use borrow.Author.Tests.{ne_eqb}
use mathlib.Core.Bool.{Bool}
use Prim.Native.Nat.{ℕ}
use Rattle.hammer.specs.declared.Hammer.{Hammer}
use Rattle.instrument_fields.specs.declared.Common.{Common}
use Rattle.instrument_fields.specs.declared.Damper.{Damper}
use Rattle.instrument_fields.specs.declared.KeyDesign.{KeyDesign}
use Rattle.instrument_fields.specs.declared.LoopDesign.{LoopDesign}
use Rattle.instrument_fields.specs.Unused.{is_plus_zero}

-- what equals 0 is no NaN
pub zero_no_nan : (x : Float) → eq x (of_bits binary64 0) ≡ true → T (not (is_nan x))
unfolding eq is_nan of_bits
zero_no_nan nan h = subst T (sym h) tt
zero_no_nan (inf s) h = tt
zero_no_nan (fin s m e) h = tt

zero_is_zero : eq (of_bits binary64 0) (of_bits binary64 0) ≡ false → ⊥
unfolding eq of_bits
zero_is_zero h = subst T h tt

-- what does not equal 0 is not +0, since the pattern 0 is +0's
pub not_zero : (x : Float) → T (fits binary64 x) → eq x (of_bits binary64 0) ≡ false → is_plus_zero x ≡ false
unfolding is_plus_zero
not_zero x k h =
    ne_eqb (to_bits binary64 x) 0
    (λ e. zero_is_zero (sym (ap (λ (v : Float). eq v (of_bits binary64 0)) (sym (of_bits-to_bits binary64 x k) ∙ ap (of_bits binary64) e)) ∙ h))

-- what has a record's fields is the record
pub key_is : {k k' s s' : ℕ} {h h' : Bool} {w w' d d' t t' r r' : Float} → k ≡ k' → h ≡ h' → s ≡ s' → w ≡ w' → d ≡ d' → t ≡ t' → r ≡ r'
    → ◌≡◌ {A = KeyDesign}
    (record { key = k; has_damper = h; strings = s; weight = w; damper_scale = d; strike_ratio = t; damper_ratio = r })
    (record { key = k'; has_damper = h'; strings = s'; weight = w'; damper_scale = d'; strike_ratio = t'; damper_ratio = r' })
key_is e1 e2 e3 e4 e5 e6 e7 = rw (e1, e2, e3, e4, e5, e6, e7)

pub string_is : {n n' s s' : ℕ} {p p' t t' a a' g g' c c' : Float} → n ≡ n' → s ≡ s' → p ≡ p' → t ≡ t' → a ≡ a' → g ≡ g' → c ≡ c'
    → ◌≡◌ {A = LoopDesign}
    (record { n = n; ap_count = s; phi = p; thiran_a = t; ap_a = a; loss_g = g; loss_c = c })
    (record { n = n'; ap_count = s'; phi = p'; thiran_a = t'; ap_a = a'; loss_g = g'; loss_c = c' })
string_is e1 e2 e3 e4 e5 e6 e7 = rw (e1, e2, e3, e4, e5, e6, e7)

pub hammer_is : {x x' : ℕ} {s s' e e' m m' t t' : Float} → s ≡ s' → x ≡ x' → e ≡ e' → m ≡ m' → t ≡ t'
    → ◌≡◌ {A = Hammer}
    (record { stiffness = s; exponent = x; eps = e; mass = m; tau = t })
    (record { stiffness = s'; exponent = x'; eps = e'; mass = m'; tau = t' })
hammer_is e1 e2 e3 e4 e5 = rw (e1, e2, e3, e4, e5)

pub damper_is : {r r' s s' : Float} → r ≡ r' → s ≡ s'
    → ◌≡◌ {A = Damper} (record { rho = r; ramp_s = s }) (record { rho = r'; ramp_s = s' })
damper_is e1 e2 = rw (e1, e2)

pub common_is : {f f' z z' y y' : Float} {h h' : Hammer} {d d' : Damper} → f ≡ f' → z ≡ z' → h ≡ h' → y ≡ y' → d ≡ d'
    → ◌≡◌ {A = Common}
    (record { fs = f; z = z; hammer = h; yz = y; damper = d })
    (record { fs = f'; z = z'; hammer = h'; yz = y'; damper = d' })
common_is e1 e2 e3 e4 e5 = rw (e1, e2, e3, e4, e5)
