-- What is done below i and what is to do from i is the whole sweep (`Swept`); each turn leaves fewer numbers. Assumes nothing.
use Rattle.hammer.specs.Contact.{force_of}
use Rattle.exports.specs.Runs.{felt}
use Rattle.exports.proofs.Runs.{Swept}
use Rattle.exports.proofs.leaves.leaf_force_sweep.Given as goal

abbrev pub invariant-loop-number : goal.invariant-loop-number
invariant-loop-number l = Swept (λ x. force_of (felt l.stiffness l.exponent) l.eps_r x l.c1) l.initial.c0 l.c0 l.number-index
