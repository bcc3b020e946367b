-- Each test gives its part by its own contract.
use Rattle.std.proofs.Common.{sym, ◌∙◌, arith}
use borrow.Author.Tests.{leb-true}
use Rattle.positions.specs.Laws.{and_true}
use Rattle.session_cues.specs.Laws.{piano_parts}
use Rattle.test_render.proofs.block.is_playable.Goals as goal

pub returns : goal.returns
returns c e =
    let z = c.args in
    let valid = and_true _ _ e in
    let sound = and_true _ _ valid.1 in
    let few = and_true _ _ sound.1 in
    let ends = and_true _ _ few.1 in
    let piano = piano_parts _ _ _ (sym c.is_sound_piano-sound.ensures ∙ sound.0) in
    let t_end = leb-true z.t 9223372036854775807 ends.0 in
    let m_end = leb-true z.m 9223372036854775807 ends.1 in (
      sym c.is_valid-valid.ensures ∙ valid.0,
      leb-true z.count 64 few.0,
      record { within = piano.0; hammer = piano.1 },
      omega (arith, t_end, m_end),
    )
