-- `score::contacts` meets its contract. The loop's invariant: the counts before this one are added up. Assumes nothing.
use mathlib.Core.Path.{◌≡◌}
use Rattle.counting.specs.Sums.{sum_of}
use Rattle.score.proofs.contacts.Given as goal

abbrev pub invariant-loop-count : goal.invariant-loop-count
invariant-loop-count l = l.sum ≡ sum_of l.count-index l.fn.counts
