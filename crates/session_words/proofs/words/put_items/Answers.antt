-- One item more: `size_more`, `stored_more`. Assumes nothing.
use Rattle.std.proofs.Common.{refl, arith}
use Rattle.session_words.specs.Items.{joined}
use Rattle.session_words.proofs.Steps.{size_more, stored_more}
use Rattle.session_words.proofs.words.put_items.Goals as goal

pub loop-i-init : goal.loop-i-init
unfolding joined
loop-i-init g c = record { size = omega arith; stored = refl }

pub loop-i-preserved : goal.loop-i-preserved
loop-i-preserved g c =
    let z = c.args in
    let i = c.loop-i.i in
    let w = g.T.Words.words_of in
    let n = g.T.Words.SIZE in
    let x = c.index-items-i.result in
    let h = c.index-items-i.is in
    record {
      size = size_more w n i z.items.now x c.loop-i-test.true h c.loop-i.invariant.size c.put.ensures.size;
      stored =
          stored_more w n i z.items.now x c.loop-i-test.true h c.loop-i.invariant.size z.words.now _ _ z.at c.loop-i.invariant.stored (rw c.SIZE.ensures at c.put.ensures.stored);
    }
