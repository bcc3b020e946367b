-- `energies::string_energy` meets its contract: the six lines' energies in their order, each from its offset on. Assumes nothing.
use Rattle.energies.specs.Energy.{sum_from, string_energy}
use Rattle.energies.proofs.string_energy.Goals as goal

pub returns : goal.returns
unfolding string_energy sum_from
returns c =
    let lines = c.layout-b_r.ensures in
    rw (
      c.energy_at.ensures,
      c.energy_at-sum-5.ensures,
      c.energy_at-sum-4.ensures,
      c.energy_at-sum-3.ensures,
      c.energy_at-sum-2.ensures,
      c.energy_at-sum.ensures,
      lines.c_l,
      lines.c_r,
      lines.b_l,
      lines.b_r,
    )
