-- The file is read, then the words: `begins`. Assumes nothing.
use Rattle.std.proofs.Common.{sym, ◌∙◌, subst}
use Rattle.crossing.specs.Crossing.{Begins}
use Rattle.crossing.proofs.Returns.{handed_on, begins_refused, begins, begins_not}
use Rattle.crossing.proofs.begin.Goals as goal

pub returns-in_err-instrument : goal.returns-in_err-instrument
returns-in_err-instrument c =
    let z = c.args in
    let e = c.in_err-instrument.field-0.0 in
    subst (Begins z.file.now z.words.now) (handed_on e _ c.from_residual.ensures.1)
    (begins_refused z.file.now z.words.now e (sym c.read.ensures ∙ c.in_err-instrument.was))

pub returns : goal.returns
returns c =
    let z = c.args in
    begins z.file.now z.words.now _ (sym c.read.ensures ∙ c.in_ok-instrument.was) _ (sym c.handed_session.ensures ∙ c.in-Some.is)

pub returns-in_default : goal.returns-in_default
returns-in_default c =
    let z = c.args in
    begins_not z.file.now z.words.now _ (sym c.read.ensures ∙ c.in_ok-instrument.was) (sym c.handed_session.ensures ∙ c.in_default.is)
