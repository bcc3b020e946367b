-- `energies::pairs_of` meets its contract. The invariant: the pairs below k are in place, and zeros after them. Assumes nothing.
use mathlib.Core.Path.{◌≡◌}
use Rattle.counting.specs.Below.{pad, tabulate}
use Rattle.energies.specs.Energy.{no_energy}
use Rattle.energies.specs.Steps.{pair_of}
use Rattle.energies.proofs.pairs_of.Given as goal

abbrev pub invariant-loop-k : goal.invariant-loop-k
invariant-loop-k l = l.pairs ≡ pad 16 no_energy (tabulate l.k (pair_of l.fn.instrument l.sums))
