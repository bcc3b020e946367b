-- `power::power` ends: the word falls at each call of itself.
use Rattle.power.proofs.+power.Given as goal

abbrev pub decreases-power : goal.decreases-power
decreases-power l = l.word
