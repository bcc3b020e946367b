-- `strings::next_indices` meets its contract. The loop's invariant: the strings below i have their indices at t + 1, the others still at t. Assumes nothing.
use mathlib.Core.Path.{◌∙◌}
use Prim.Native.Nat.{ℕ, ◌+◌}
use native.Mathlib.Omega.{arith}
use lib.ListN.{set}
use Rattle.std.proofs.Common.{length-set}
use Rattle.std.proofs.lemmas.List.{get_or-set_same, get_or-set_other}
use Rattle.cells.specs.Numbered.{and_here}
use Rattle.string.specs.String.{IndicesAt}
use Rattle.string.specs.Table.{past_indices, design_at, indices_in}
use Rattle.strings.proofs.next_indices.Goals as goal

pub loop-i-preserved : goal.loop-i-preserved
loop-i-preserved c =
    let args = c.args in
    let i = c.loop-i.i in
    let l = c.loop-i.indices in
    let x = c.next_indices.result in
    let done = c.loop-i.invariant in
    record {
      long = length-set l i x ∙ done.long;
      each = and_here (λ (k : ℕ). IndicesAt (design_at args.designs.now k) (args.t + 1) (indices_in (set l i x) k)) i
          (λ k h. rw (get_or-set_other l i k x past_indices (omega arith)) (done.each k h))
          (rw (get_or-set_same l i x past_indices (omega arith)) c.next_indices.ensures);
      rest = λ k a b. rw (get_or-set_other l i k x past_indices (omega arith)) (done.rest k (omega arith) b);
    }
