-- Document 01, "Instrument file", from the record to the bytes: the file that a writer writes for an instrument. Definitions only: assumes nothing.
use Rattle.std.specs.Prelude.{ℕ, zero, suc, ◌+◌, ◌*◌, List, [], ◌∷◌, ◌++◌, cond, length}
use Rattle.little_endian.specs.Numbers.{le16, le32, le_f64}
use Rattle.instrument_fields.specs.declared.Common.{Common}
use Rattle.instrument_fields.specs.declared.KeyDesign.{KeyDesign}
use Rattle.instrument_fields.specs.declared.LoopDesign.{LoopDesign}
use Rattle.instrument.specs.declared.Instrument.{Instrument}
use Rattle.counting.specs.Below.{sum_below, gather}
use Rattle.instrument.specs.Valid.{key_at, string_at, string_sum}

-- "f64 fs, z and mass, stiffness, eps, tau, yz, rho, ramp_s; then u32 h"
unfoldable pub common_bytes : Common → List ℕ
common_bytes c =
    le_f64 c.fs ++ (le_f64 c.z ++ (le_f64 c.hammer.mass ++ (le_f64 c.hammer.stiffness ++ (le_f64 c.hammer.eps ++ (le_f64 c.hammer.tau
    ++ (le_f64 c.yz ++ (le_f64 c.damper.rho ++ (le_f64 c.damper.ramp_s ++ le32 c.hammer.exponent))))))))

-- "u16 n, u16 ap_count, f64 φ, thiran_a and ap_a, loss_g, loss_c"
unfoldable pub string_bytes : LoopDesign → List ℕ
string_bytes s =
    le16 s.n ++ (le16 s.ap_count ++ (le_f64 s.phi ++ (le_f64 s.thiran_a ++ (le_f64 s.ap_a ++ (le_f64 s.loss_g ++ le_f64 s.loss_c)))))

-- "bytes key, has_damper (0 or 1), string count s, 0"
unfoldable pub four_bytes : KeyDesign → List ℕ
four_bytes k = k.key ∷ cond k.has_damper 1 0 ∷ k.strings ∷ 0 ∷ []

-- "f64 weight, damper_scale, strike_ratio, damper_ratio" after them
unfoldable pub head_bytes : KeyDesign → List ℕ
head_bytes k = four_bytes k ++ (le_f64 k.weight ++ (le_f64 k.damper_scale ++ (le_f64 k.strike_ratio ++ le_f64 k.damper_ratio)))

-- a key, with the strings that s numbers from 0
unfoldable pub key_bytes : KeyDesign → (ℕ → LoopDesign) → List ℕ
key_bytes k s = head_bytes k ++ gather k.strings (λ j. string_bytes (s j))

unfoldable pub section_bytes : Instrument → ℕ → List ℕ
section_bytes i zero = common_bytes i.common
section_bytes i (suc k) = key_bytes (key_at i.keys k) (λ j. string_at i.strings (string_sum i.keys k + j))

-- d sections S 0, S 1, .. under their table, each from where the one before it ends
unfoldable pub section_start : ℕ → (ℕ → List ℕ) → ℕ → ℕ
section_start d S i = 4 + 8 * d + sum_below i (λ k. length (S k))

unfoldable pub packed : ℕ → (ℕ → List ℕ) → List ℕ
packed d S = le32 d ++ (gather d (λ i. le32 (section_start d S i) ++ le32 (length (S i))) ++ gather d S)

unfoldable pub encode : Instrument → List ℕ
encode i = packed (i.key_count + 1) (section_bytes i)
