-- `string::StringDesign::finish_filter` meets its contract: the filter's own call on its cells. Assumes nothing.
use mathlib.Core.Path.{◌≡◌}
use Prim.Native.Nat.{◌-◌}
use native.Mathlib.Omega.{arith}
use Rattle.string.specs.String.{filter_size}
use Rattle.string.specs.Steps.{finished_out, finished}
use Rattle.string.proofs.StringDesign.finish_filter.Goals as goal

pub returns : goal.returns
unfolding finished_out finished
returns c =
    let l = c.layout-at.ensures in
    let n : c.layout-at.result.y_s - c.layout-at.result.filter ≡ filter_size c.args.self = omega (arith, l.y_s, l.filter) in
    let call = c.finish.ensures in
    (rw (n, l.filter) at call.0, rw (call.1, n, l.filter))
