-- `root::paired`: what is scaled with an even exponent stays; with an odd one, twice the number with one less
-- (proofs/Patterns.antt). Assumes nothing.
use Rattle.root.proofs.Patterns.{paired_odd}
use Rattle.root.proofs.paired.Goals as goal

pub returns-else-s-eq0 : goal.returns-else-s-eq0
returns-else-s-eq0 c =
    paired_odd _ c.scaled-s.result.m c.scaled-s.result.g c.scaled-s.ensures c.if-s-eq0.false
