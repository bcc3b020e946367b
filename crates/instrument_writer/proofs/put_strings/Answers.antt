-- The invariant: the first j are stored. One turn is `string_next`.
use mathlib.Core.Path.{◌≡◌, refl, ◌∙◌}
use native.Mathlib.Omega.{arith}
use lib.ListN.{length}
use Rattle.counting.specs.Below.{gather}
use Rattle.instrument.specs.Valid.{string_at}
use Rattle.instrument_writer.proofs.Loops.{string_next}
use Rattle.instrument_writer.proofs.put_strings.Goals as goal

pub loop-j-init : goal.loop-j-init
unfolding gather
loop-j-init c = (refl, c.requires, refl, refl)

pub loop-j-preserved : goal.loop-j-preserved
loop-j-preserved c =
    let a = c.args in (
      c.loop-j.invariant.0,
      c.loop-j.invariant.1,
      c.put_string.auto.b ∙ c.loop-j.invariant.2,
      string_next (string_at a.strings.now) a.b.now c.loop-j.b _ a.p c.loop-j.j c.loop-j.invariant.3 c.put_string.ensures,
    )

pub shape_of-b : goal.shape_of-b
shape_of-b c = c.loop-j.invariant.2

pub returns : goal.returns
returns c =
    let all : c.loop-j.j ≡ length c.args.strings.now = omega (arith, c.loop-j.invariant.0) in
    rw all at c.loop-j.invariant.3
