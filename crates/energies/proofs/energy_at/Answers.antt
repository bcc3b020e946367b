-- `energies::energy_at` meets its contract: the cells lent from a to a + len are the line. Assumes nothing.
use mathlib.Core.Path.{◌≡◌, ap, ◌∙◌}
use Prim.Native.Nat.{ℕ, ◌+◌, ◌-◌}
use native.Mathlib.Omega.{arith}
use Rattle.cells.specs.Splice.{part}
use Rattle.energies.specs.Energy.{line_energy}
use Rattle.energies.proofs.energy_at.Goals as goal

pub returns : goal.returns
returns c =
    let at = c.args in
    let n : at.a + at.len - at.a ≡ at.len = omega arith in
    c.line_energy.ensures ∙ ap (λ (k : ℕ). line_energy (part at.a k at.cells.now)) n
