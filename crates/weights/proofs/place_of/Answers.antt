-- A case for each side of the test of the count, which the lookup requires.
use mathlib.Core.Path.{◌∙◌}
use Rattle.weights.proofs.Pairs.{many_keys, few_keys}
use Rattle.weights.proofs.place_of.Goals as goal

pub returns-then-i-gt16 : goal.returns-then-i-gt16
returns-then-i-gt16 c = many_keys c.args.i c.args.key c.if-i-gt16.true

pub returns : goal.returns
returns c = c.key_index.ensures ∙ few_keys c.args.i c.args.key c.if-i-gt16.false
