-- `power::quarters_of` meets its contract: the definition, by what the test says. Assumes nothing.
use borrow.Author.Tests.{lt-ltb, le-ltb}
use Rattle.power.specs.Power.{quarters_of}
use Rattle.power.proofs.quarters_of.Goals as goal

pub returns-then-word-lt256 : goal.returns-then-word-lt256
unfolding quarters_of
returns-then-word-lt256 c = rw (lt-ltb c.args.word 256 c.if-word-lt256.true)

pub returns-else-word-lt256 : goal.returns-else-word-lt256
unfolding quarters_of
returns-else-word-lt256 c = rw (le-ltb c.args.word 256 c.if-word-lt256.false)
