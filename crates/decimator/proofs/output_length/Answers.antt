-- `decimator::output_length` meets its contract. A quotient by 2 or more leaves room for one. Assumes nothing.
use native.Mathlib.Omega.{arith}
use Rattle.decimator.proofs.Cases.{length_same, length_even, length_odd, quotient_fits}
use Rattle.decimator.proofs.output_length.Goals as goal

pub overflow_add-result : goal.overflow_add-result
overflow_add-result c = let a = c.args in record { fits = quotient_fits a.n a.factor c.if-factor-le1.false (omega arith) }

pub returns-then-factor-le1 : goal.returns-then-factor-le1
returns-then-factor-le1 c = let a = c.args in length_same a.n a.factor c.if-factor-le1.true

pub returns-then-n-factor-eq0 : goal.returns-then-n-factor-eq0
returns-then-n-factor-eq0 c = let a = c.args in length_even a.n a.factor c.if-factor-le1.false c.if-n-factor-eq0.true

pub returns-else-n-factor-eq0 : goal.returns-else-n-factor-eq0
returns-else-n-factor-eq0 c = let a = c.args in length_odd a.n a.factor c.if-factor-le1.false c.if-n-factor-eq0.false
