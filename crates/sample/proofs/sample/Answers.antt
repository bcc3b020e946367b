-- `sample::sample` meets its contract: each call gives the equation of its pass, and `sample_is` puts them together in document 01's
-- order. The cells that are lent stay as many through the calls, so each finds them ready. Assumes nothing.
use borrow.Author.Rules.{rules}
use mathlib.Core.Path.{◌∙◌}
use mathlib.Core.Bool.{false}
use lib.ListN.{length, get_or, drop}
use Rattle.std.specs.Prelude.{◌≡◌, option_map}
use Rattle.strings.specs.Laws.{fit_sound}
use Rattle.sample.specs.Sample.{model_at}
use Rattle.sample.specs.Laws.{ready_kept}
use Rattle.sample.proofs.Fused.{sample_is}
use Rattle.sample.proofs.sample.Goals as goal

pub bridge-out-requires : goal.bridge-out-requires
bridge-out-requires c =
    let kept = c.filter_strings.auto in
    record {
      ready = ready_kept c.requires.ready (c.strike_strings-f.auto.part ∙ kept.part) kept.v_in;
      indexed = c.requires.indexed;
    }

pub returns : goal.returns
returns c =
    let at = c.args in
    let ready = c.requires.ready in
    let model = model_at at.tables in
    let force : c.map.result ≡ option_map (λ _. c.strike_strings-f.result.force_sum) at.motion.hammer = search rules in
    rw c.is_some.ensures (
    sample_is model (λ k. get_or at.down.now k false) at.t at.damper_r.now at.motion at.part.now
    (drop (length model.strings) at.scratch.now) (fit_sound ready.fit) ready.cells
    c.move_dampers.ensures c.filter_strings.ensures.0 c.strike_strings-f.ensures.0 c.strike_strings-f.ensures.1
    c.move_hammer-after.ensures (rw c.filter_strings.ensures.1 at c.bridge-out.ensures) force
    )
