-- The file is read, then the words' number decides: `opens`. Assumes nothing.
use Rattle.std.proofs.Common.{sym, ◌∙◌, subst}
use Rattle.crossing.specs.Crossing.{Opens}
use Rattle.crossing.proofs.Returns.{handed_on, opens_refused, opens, opens_not}
use Rattle.crossing.proofs.begin_open.Goals as goal

pub returns-in_err-instrument : goal.returns-in_err-instrument
returns-in_err-instrument c =
    let z = c.args in
    let e = c.in_err-instrument.field-0.0 in
    subst (Opens z.file.now z.words.now) (handed_on e _ c.from_residual.ensures.1)
    (opens_refused z.file.now z.words.now e (sym c.read.ensures ∙ c.in_err-instrument.was))

pub returns-then-words-eq-LENGTH : goal.returns-then-words-eq-LENGTH
returns-then-words-eq-LENGTH c =
    let z = c.args in
    opens z.file.now z.words.now _ (sym c.read.ensures ∙ c.in_ok-instrument.was) c.if-words-eq-LENGTH.true

pub returns-else-words-eq-LENGTH : goal.returns-else-words-eq-LENGTH
returns-else-words-eq-LENGTH c =
    let z = c.args in
    opens_not z.file.now z.words.now _ (sym c.read.ensures ∙ c.in_ok-instrument.was) c.if-words-eq-LENGTH.false
