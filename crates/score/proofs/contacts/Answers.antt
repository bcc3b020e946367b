-- `score::contacts` meets its contract. The loop's invariant: the counts before this one are added up. Assumes nothing.
use mathlib.Core.Path.{◌≡◌, refl, ap, ◌∙◌}
use Prim.Native.Nat.{◌+◌}
use native.Mathlib.Omega.{arith}
use lib.ListN.{length-take, get_or}
use lib.Seq.{get_or-take}
use borrow.Author.Rules.{rules}
use Rattle.std.specs.Prelude.{length}
use Rattle.counting.specs.Below.{sum_below}
use Rattle.counting.specs.Sums.{sum_of}
use Rattle.counting.specs.Laws.{sum_more, sum_grows}
use Rattle.score.proofs.Totals.{all_counts, within, beyond}
use Rattle.score.proofs.contacts.Goals as goal

pub loop-count-init : goal.loop-count-init
unfolding sum_below
loop-count-init c = refl

pub returns-in_err-sum : goal.returns-in_err-sum
returns-in_err-sum c =
    let at = c.args in
    let k = c.loop-count.count-index in
    let there = simp length-take at c.loop-count-test.true in
    let same = get_or-take c.min.result at.counts k 0 (omega (arith, there)) in
    let more = sum_more (λ j. get_or at.counts j 0) k in
    let grows = sum_grows (λ j. get_or at.counts j 0) at.keys (k + 1) (omega (arith, there, c.min.ensures)) in
    rw c.from_residual.ensures (beyond (omega (arith, c.in_err-sum.ensures, c.loop-count.invariant, same, more, grows, c.ranges.limit.fits)))

pub loop-count-preserved : goal.loop-count-preserved
loop-count-preserved c =
    let at = c.args in
    let k = c.loop-count.count-index in
    let there = simp length-take at c.loop-count-test.true in
    let same = get_or-take c.min.result at.counts k 0 (omega (arith, there)) in
    omega (arith, c.in_ok-sum.ensures, c.loop-count.invariant, same, sum_more (λ j. get_or at.counts j 0) k)

pub returns-then-sum-limit : goal.returns-then-sum-limit
returns-then-sum-limit c =
    let at = c.args in
    let long : length at.counts ≡ 16 = search rules in
    let all = simp length-take at c.loop-count-test.false in
    let most = simp length-take at c.loop-count.auto.count-index-end in
    let k : c.loop-count.count-index ≡ c.min.result = omega (arith, all, most, long, c.min.ensures) in
    within c.loop-count.sum (c.loop-count.invariant ∙ ap (λ n. sum_of n at.counts) (k ∙ c.min.ensures) ∙ all_counts at.keys at.counts long) c.if-sum-limit.true

pub returns-else-sum-limit : goal.returns-else-sum-limit
returns-else-sum-limit c =
    let at = c.args in
    let long : length at.counts ≡ 16 = search rules in
    let all = simp length-take at c.loop-count-test.false in
    let most = simp length-take at c.loop-count.auto.count-index-end in
    let k : c.loop-count.count-index ≡ c.min.result = omega (arith, all, most, long, c.min.ensures) in
    let sum = c.loop-count.invariant ∙ ap (λ n. sum_of n at.counts) (k ∙ c.min.ensures) ∙ all_counts at.keys at.counts long in
    beyond (omega (arith, sum, c.if-sum-limit.false))
