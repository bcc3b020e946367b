-- `string::StringAt::filter` meets its contract: the filter's own call on its cells, with what c_r gives. Assumes nothing.
use mathlib.Core.Path.{◌≡◌}
use Prim.Native.Nat.{◌-◌}
use native.Mathlib.Omega.{arith}
use Rattle.string.specs.String.{filter_size, v_in, filtered}
use Rattle.string.proofs.StringAt.filter.Goals as goal

pub returns : goal.returns
unfolding v_in filtered
returns c =
    let l = c.layout-at.ensures in
    let n : c.layout-at.result.y_s - c.layout-at.result.filter ≡ filter_size c.args.self.design = omega (arith, l.y_s, l.filter) in
    let call = c.loop_filter.ensures in
    let v = c.read_line-v.ensures in
    (rw (v, n, l.filter, l.c_r) at call.0, rw (call.1, v, n, l.filter, l.c_r))
