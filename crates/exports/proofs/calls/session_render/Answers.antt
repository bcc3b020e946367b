-- Safe: the tests give what the renderer requires, a valid instrument with cells for it. Assumes nothing.
use Rattle.std.proofs.Common.{sym, ◌∙◌, arith}
use Rattle.instrument.specs.WorkLaws.{part_counted}
use Rattle.render.specs.Work.{valid_renderable}
use Rattle.exports.proofs.calls.session_render.Goals as goal

pub rendered-requires : goal.rendered-requires
rendered-requires c =
    let i = c.instrument_of-instrument.result in
    let passes = sym c.is_valid.ensures ∙ c.if-not-is_valid.false in
    let w = sym (c.part_cells.ensures.0 ∙ part_counted i passes) in
    valid_renderable i passes _ _ (omega (arith, w, c.if-part-part_cells.false)) c.if-scratch-instrument.false
