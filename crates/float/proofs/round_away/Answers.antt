-- `float::round_away` meets its contract: each way out is a lemma of `proofs/Rounding.antt`. Assumes nothing.
use Rattle.std.proofs.Common.{ℕ, ◌+◌, ◌/◌, ◌^◌, ◌<◌, T, sym, ap, ◌∙◌, subst, arith}
use lib.Ieee.{binary64, fits, of_bits}
use Rattle.float.proofs.Rounding.{Doubled, doubling, wholly, wholly_asks, beyond, nothing}
use Rattle.float.proofs.round_away.Goals as goal

pub truncating_f64_to_u64-requires : goal.truncating_f64_to_u64-requires
unfolding of_bits
truncating_f64_to_u64-requires c =
    let held : T (fits binary64 c.args.x) = subst T (sym c.well_formed.0.1) tt in
    let twice : Doubled c.args.x = doubling c.args.x (held) c.if-x.true c.if-x-2.true in
    let the_parts = (twice).asks in
    record { lower_bound = the_parts.0; upper_bound = the_parts.1 }

pub overflow_add-result : goal.overflow_add-result
unfolding of_bits
overflow_add-result c =
    let held : T (fits binary64 c.args.x) = subst T (sym c.well_formed.0.1) tt in
    let twice : Doubled c.args.x = doubling c.args.x (held) c.if-x.true c.if-x-2.true in
    let b = subst (λ (n : ℕ). n < 2 ^ 63) (sym c.truncating_f64_to_u64.ensures) (twice).small in
    omega arith

pub truncating_f64_to_u64-requires-then-x-3 : goal.truncating_f64_to_u64-requires-then-x-3
unfolding of_bits
truncating_f64_to_u64-requires-then-x-3 c =
    let the_parts = wholly_asks c.args.x c.if-x.true c.if-x-3.true in
    record { lower_bound = the_parts.0; upper_bound = the_parts.1 }

pub returns-then-x-2 : goal.returns-then-x-2
unfolding of_bits
returns-then-x-2 c =
    let held : T (fits binary64 c.args.x) = subst T (sym c.well_formed.0.1) tt in
    let twice : Doubled c.args.x = doubling c.args.x (held) c.if-x.true c.if-x-2.true in
    ap (λ (n : ℕ). (n + 1) / 2) c.truncating_f64_to_u64.ensures ∙ (twice).is

pub returns-then-x-3 : goal.returns-then-x-3
unfolding of_bits
returns-then-x-3 c =
    let held : T (fits binary64 c.args.x) = subst T (sym c.well_formed.0.1) tt in
    c.truncating_f64_to_u64-then-x-3.ensures
    ∙ wholly c.args.x (held) c.if-x.true c.if-x-2.false c.if-x-3.true

pub returns-else-x-3 : goal.returns-else-x-3
unfolding of_bits
returns-else-x-3 c = beyond c.args.x c.if-x.true c.if-x-3.false

pub returns-else-x : goal.returns-else-x
unfolding of_bits
returns-else-x c = nothing c.args.x c.if-x.false
