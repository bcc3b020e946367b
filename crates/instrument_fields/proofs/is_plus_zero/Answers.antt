-- Where `==` says 0, x is no NaN and its pattern decides; where it does not, x is not +0.
use mathlib.Core.Path.{refl, sym, subst, ◌∙◌}
use lib.Dec.{T}
use Rattle.instrument_fields.specs.Unused.{is_plus_zero}
use Rattle.instrument_fields.proofs.Zeros.{zero_no_nan, not_zero}
use Rattle.instrument_fields.proofs.is_plus_zero.Goals as goal

pub float_to_bits-result : goal.float_to_bits-result
float_to_bits-result c = zero_no_nan _ c.if-x.true

pub returns-then-x : goal.returns-then-x
unfolding is_plus_zero
returns-then-x c = refl

pub returns-else-x : goal.returns-else-x
returns-else-x c = c.if-x.false ∙ sym (not_zero _ (subst T (sym c.well_formed.0.1) tt) c.if-x.false)
