-- The lengths written are those of the cuts that `cut_string` gives. Assumes nothing.
use Rattle.std.proofs.Common.{ap}
use Rattle.exports.specs.Runs.{lengths_of}
use Rattle.exports.proofs.leaves.leaf_cut_string.Goals as goal

pub returns : goal.returns
returns c = ap lengths_of c.cut_string-cuts.ensures
