-- The definition's zeros are floats of the whole number 0, the default's its own: both compute to +0.
use lib.Ieee.{of_bits, of_int}
use Rattle.instrument_fields.proofs.Zeros.{hammer_is, damper_is, common_is}
use Rattle.instrument_fields.proofs.no_common.Goals as goal

pub returns : goal.returns
unfolding of_bits of_int
returns c =
    let e = c.default.ensures in
    let h = e.1.1.0 in
    let d = e.1.1.1.1 in
    common_is e.0 e.1.0 (hammer_is h.0 h.1.0 h.1.1.0 h.1.1.1.0 h.1.1.1.1) e.1.1.1.0 (damper_is d.0 d.1)
