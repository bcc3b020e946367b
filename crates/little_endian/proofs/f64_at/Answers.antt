-- The float of the pattern that `u64_at` reads, as defined.
use Rattle.little_endian.specs.Numbers.{f64_at}
use Rattle.little_endian.proofs.f64_at.Goals as goal

pub returns : goal.returns
unfolding f64_at
returns c = cc
