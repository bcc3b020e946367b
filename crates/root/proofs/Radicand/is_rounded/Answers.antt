-- p is one less than the digits of g, and `after_1` says when the number after p is the root. Assumes nothing.
use Rattle.std.proofs.Common.{ℕ, T, sym, refl, ap, ◌∙◌, subst, arith}
use lib.Ieee.{binary64, of_bits, to_bits}
use lib.Ieee.Bits.{of_bits-to_bits, to_bits-lt}
use Rattle.root.proofs.Quick.{after_1, pattern_is}
use Rattle.root.proofs.Radicand.is_rounded.Goals as goal

pub returns-in-Some : goal.returns-in-Some
returns-in-Some c =
    λ t. let a = c.args in
    let fit = subst T (sym c.well_formed.1.0.1) tt in
    let known = c.in-Some.ensures in
    let e = after_1 _ _ _ known.is c.if-p-d.true (omega arith) in
    sym (of_bits-to_bits binary64 a.g fit)
    ∙ ap (λ (b : ℕ). of_bits binary64 b) (pattern_is (to_bits binary64 a.g) a.low _ _ (to_bits-lt binary64 a.g fit) refl known.small c.requires e)
