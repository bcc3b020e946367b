-- `decimator::decimate` meets its contract: where nothing is refused, the loop's premises hold, and each way gives the definition's list. Assumes nothing.
use mathlib.Core.Path.{refl, ◌∙◌}
use lib.ListN.{length}
use Rattle.decimator.proofs.Cases.{none_refused, same_room, copied, thinned}
use Rattle.decimator.proofs.decimate.Goals as goal

pub copy_from_slice-requires : goal.copy_from_slice-requires
copy_from_slice-requires c =
    let a = c.args in
    same_room (length a.x.now) (length a.taps.now) a.factor (length a.out.now) 0 c.in_ok-test.ensures refl c.if-factor-le1.true

pub thin-requires : goal.thin-requires
thin-requires c =
    let a = c.args in
    none_refused a.x.now a.taps.now a.out.now a.factor 0 c.in_ok-test.ensures refl c.if-factor-le1.false

pub returns-then-factor-le1 : goal.returns-then-factor-le1
returns-then-factor-le1 c =
    let a = c.args in
    record {
      number = c.in_ok-test.ensures;
      refuses = λ n. absurd (n refl);
      accepts = λ e. c.copy_from_slice.ensures.after ∙ copied a.x.now a.taps.now a.factor c.if-factor-le1.true;
    }

pub returns-else-factor-le1 : goal.returns-else-factor-le1
returns-else-factor-le1 c =
    let a = c.args in
    let many = none_refused a.x.now a.taps.now a.out.now a.factor 0 c.in_ok-test.ensures refl c.if-factor-le1.false in
    record {
      number = c.in_ok-test.ensures;
      refuses = λ n. absurd (n refl);
      accepts = λ e. c.thin.ensures ∙ thinned a.x.now a.taps.now a.factor (length a.out.now) c.if-factor-le1.false many.room;
    }
