-- Safe: the renderer's premises are its caller's and the two tests; a silent piano can be rendered from 0 on. Assumes nothing.
use Rattle.std.proofs.Common.{sym, subst, arith}
use Rattle.score.specs.declared.Piano.{Piano}
use Rattle.render.specs.Render.{PianoAt}
use Rattle.render.specs.Laws.{silent_at}
use Rattle.exports.proofs.calls.rendered.Goals as goal

pub render-run-requires : goal.render-run-requires
render-run-requires c =
    let keys = c.args.instrument.key_count in
    let silent = subst (λ (p : Piano). PianoAt keys p 0) (sym c.silent_piano-piano.ensures) (silent_at keys 0) in
    record {
      renderable = c.requires;
      count_bound = omega (arith, c.if-score-gt64.false);
      piano_at = silent;
      m_bound = omega (arith, c.if-m-gt9223372036854775807.false);
    }
