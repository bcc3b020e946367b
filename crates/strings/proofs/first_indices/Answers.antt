-- `strings::first_indices` meets its contract: the front of the array has the strings' indices. Assumes nothing.
use native.Mathlib.Omega.{arith}
use lib.ListN.{length}
use lib.Seq.{get_or-take, length-take-le}
use Rattle.string.specs.Table.{past_indices}
use Rattle.strings.proofs.first_indices.Goals as goal

pub returns : goal.returns
returns c =
    let n = length c.args.designs.now in
    let indices = c.loop-i.indices in
    let done = c.loop-i.invariant in
    record {
      long = length-take-le n indices (omega (arith, done.room, c.requires.all_fit.few));
      each = λ k h. rw (get_or-take n indices k past_indices h) (done.each k (omega (arith, h, c.loop-i-test.false)));
    }
