-- What refuses file or pairs is answered, and nothing is written; else what the writer promises is the promise. Assumes nothing.
use Rattle.std.proofs.Common.{sym, ◌∙◌, subst}
use Rattle.crossing.proofs.Returns.{handed_on}
use Rattle.gingerfile.specs.Adjust.{Adjusts}
use Rattle.gingerfile.proofs.Returns.{adjusts_not_read, adjusts_not_whole, adjusts_written}
use Rattle.gingerfile.proofs.adjusted.Goals as goal

pub returns-in_err-instrument : goal.returns-in_err-instrument
returns-in_err-instrument c =
    let z = c.args in
    let e = c.in_err-instrument.field-0.0 in
    subst (λ r. Adjusts z.file.now z.keys.now z.weights.now z.out.now r z.out.now) (handed_on e _ c.from_residual.ensures.1)
    (adjusts_not_read z.file.now z.keys.now z.weights.now z.out.now e (sym c.read.ensures ∙ c.in_err-instrument.was))

pub returns-then-not-are_whole : goal.returns-then-not-are_whole
returns-then-not-are_whole c =
    let z = c.args in
    adjusts_not_whole z.file.now z.keys.now z.weights.now z.out.now _ (sym c.read.ensures ∙ c.in_ok-instrument.was)
    (sym c.are_whole.ensures ∙ c.if-not-are_whole.true)

pub returns : goal.returns
returns c =
    let z = c.args in
    adjusts_written z.file.now z.keys.now z.weights.now z.out.now _ (sym c.read.ensures ∙ c.in_ok-instrument.was)
    (sym c.are_whole.ensures ∙ c.if-not-are_whole.false) c.written.ensures
