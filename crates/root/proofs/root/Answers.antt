-- `root::root` meets its contract: the equation by the facts of `proofs/Patterns.antt`, the standard's words from it by `lawful`. Of
-- the guess nothing is used. Assumes nothing.
use Rattle.std.proofs.Common.{T, sym, refl, ◌∙◌, subst, arith}
use lib.Ieee.{of_bits, div}
use Rattle.float.specs.Numbers.{lt_no_nan}
use Rattle.float.specs.Order.{nought}
use Rattle.root.proofs.Correct.{lawful}
use Rattle.root.proofs.Patterns.{above_zero_bits, above_top_root, zero_root, no_root, made}
use Rattle.root.proofs.root.Goals as goal

pub float_to_bits-bits : goal.float_to_bits-bits
unfolding of_bits
float_to_bits-bits c = lt_no_nan nought c.args.x c.if-x.true

pub paired-s-requires : goal.paired-s-requires
unfolding of_bits
paired-s-requires c = (above_zero_bits c.args.x (subst T (sym c.well_formed.0.1) tt) c.if-x.true, c.if-bits-lt9218868437227405312.true)

pub returns-then-is_rounded : goal.returns-then-is_rounded
unfolding of_bits
returns-then-is_rounded c =
    let s = c.paired-s in
    let is = made c.args.x s.result.m s.result.g _
    (subst T (sym c.well_formed.0.1) tt) c.if-x.true c.if-bits-lt9218868437227405312.true s.ensures refl in
    let e = c.is_rounded.ensures c.if-is_rounded.true ∙ is.2 in
    record { value = e; square_root = lawful c.args.x _ c.well_formed.0.1 e }

pub overflow_add-result : goal.overflow_add-result
unfolding of_bits
overflow_add-result c =
    let s = c.paired-s in
    let is = made c.args.x s.result.m s.result.g c.rounded.result
    (subst T (sym c.well_formed.0.1) tt) c.if-x.true c.if-bits-lt9218868437227405312.true s.ensures c.rounded.ensures in
    let r = is.0 in omega arith

pub float_from_bits-result : goal.float_from_bits-result
unfolding of_bits
float_from_bits-result c =
    let s = c.paired-s in
    (made c.args.x s.result.m s.result.g c.rounded.result
    (subst T (sym c.well_formed.0.1) tt) c.if-x.true c.if-bits-lt9218868437227405312.true s.ensures c.rounded.ensures).1

pub returns-after-bits-ge576460752303423488 : goal.returns-after-bits-ge576460752303423488
unfolding of_bits
returns-after-bits-ge576460752303423488 c =
    let s = c.paired-s in
    let is = made c.args.x s.result.m s.result.g c.rounded.result
    (subst T (sym c.well_formed.0.1) tt) c.if-x.true c.if-bits-lt9218868437227405312.true s.ensures c.rounded.ensures in
    record { value = is.2; square_root = lawful c.args.x _ c.well_formed.0.1 is.2 }

pub returns-else-bits-lt9218868437227405312 : goal.returns-else-bits-lt9218868437227405312
unfolding of_bits
returns-else-bits-lt9218868437227405312 c =
    let e = above_top_root c.args.x (subst T (sym c.well_formed.0.1) tt) c.if-x.true c.if-bits-lt9218868437227405312.false in
    record { value = e; square_root = lawful c.args.x _ c.well_formed.0.1 e }

pub returns-then-x-2 : goal.returns-then-x-2
unfolding of_bits
returns-then-x-2 c =
    let e = zero_root c.args.x c.if-x-2.true in
    record { value = e; square_root = lawful c.args.x _ c.well_formed.0.1 e }

pub returns-else-x-2 : goal.returns-else-x-2
unfolding of_bits div
returns-else-x-2 c =
    let e = no_root c.args.x c.if-x.false c.if-x-2.false in
    record { value = e; square_root = lawful c.args.x _ c.well_formed.0.1 e }
