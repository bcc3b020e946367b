-- A number has a pattern.
use Rattle.std.proofs.Common.{sym, ◌∙◌}
use Rattle.test_answers.proofs.same_bits.Goals as goal

pub float_to_bits-result : goal.float_to_bits-result
float_to_bits-result c = rw (sym c.is_nan.ensures.value ∙ c.if-is_nan.false) tt
