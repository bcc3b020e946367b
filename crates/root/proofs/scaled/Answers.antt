-- `root::scaled` meets its contract: the facts are those of `proofs/Patterns.antt`. Assumes nothing.
use Rattle.std.proofs.Common.{◌≡◌, ℕ, ◌/◌, ◌^◌, ◌<◌, sym, ◌∙◌, subst, arith}
use lib.Bits.{bit_and}
use lib.Count.{count_leading_zeros}
use Rattle.root.proofs.Patterns.{Moved, masked, low_digits, low_moved, scaled_low, scaled_high}
use Rattle.root.proofs.scaled.Goals as goal

at : (b : ℕ) → 0 < b → b / 2 ^ 52 ≡ 0 → Moved (bit_and b 0xf_ffff_ffff_ffff) (count_leading_zeros 64 (bit_and b 0xf_ffff_ffff_ffff))
at b p e = subst (λ (d : ℕ). Moved d (count_leading_zeros 64 d)) (sym (masked b ∙ low_digits b e)) (low_moved b p e)

pub overflow_sub-shift : goal.overflow_sub-shift
overflow_sub-shift c = omega (arith, (at c.args.bits c.requires.0 c.if-field-eq0.true).few)

pub overflow_cast-result : goal.overflow_cast-result
overflow_cast-result c = omega (arith, (at c.args.bits c.requires.0 c.if-field-eq0.true).many)

pub overflow_shl-result : goal.overflow_shl-result
overflow_shl-result c = omega (arith, (at c.args.bits c.requires.0 c.if-field-eq0.true).many)

pub overflow_cast-result-then-field-eq0 : goal.overflow_cast-result-then-field-eq0
overflow_cast-result-then-field-eq0 c = omega (arith, (at c.args.bits c.requires.0 c.if-field-eq0.true).many)

pub overflow_sub-result : goal.overflow_sub-result
overflow_sub-result c = omega (arith, (at c.args.bits c.requires.0 c.if-field-eq0.true).many)

pub overflow_add-result : goal.overflow_add-result
overflow_add-result c = omega (arith, masked c.args.bits)

pub returns-then-field-eq0 : goal.returns-then-field-eq0
returns-then-field-eq0 c = scaled_low c.args.bits _ (masked c.args.bits ∙ low_digits c.args.bits c.if-field-eq0.true) c.requires.0 c.if-field-eq0.true

pub returns-else-field-eq0 : goal.returns-else-field-eq0
returns-else-field-eq0 c = scaled_high c.args.bits _ (masked c.args.bits) c.requires.1 c.if-field-eq0.false
