-- `float::max` meets its contract: each way out is a law of proofs/Ends.antt. Assumes nothing.
use Rattle.std.proofs.Common.{sym, ◌∙◌}
use Rattle.float.specs.Float.{max_of}
use Rattle.float.proofs.Ends.{below, left_nan, not_less}
use Rattle.float.proofs.max.Goals as goal

pub returns-then-a-b : goal.returns-then-a-b
unfolding max_of
returns-then-a-b c = below c.args.a c.args.b _ _ c.if-a-b.true

pub returns-then-is_nan : goal.returns-then-is_nan
unfolding max_of
returns-then-is_nan c = left_nan c.args.a c.args.b _ _ (sym c.is_nan.ensures.value ∙ c.if-is_nan.true)

pub returns-else-is_nan : goal.returns-else-is_nan
unfolding max_of
returns-else-is_nan c = not_less c.args.a c.args.b _ c.if-a-b.false (sym c.is_nan.ensures.value ∙ c.if-is_nan.false)
