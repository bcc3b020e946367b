-- `string::StringAt::start_filter` meets its contract: Thiran's stage on the first two of the filter's cells, with what c_r gives. Assumes nothing.
use mathlib.Core.Path.{◌≡◌}
use Prim.Native.Nat.{◌-◌}
use native.Mathlib.Omega.{arith}
use Rattle.string.specs.Steps.{u_in, started}
use Rattle.string.proofs.StringAt.start_filter.Goals as goal

pub returns : goal.returns
unfolding u_in started
returns c =
    let l = c.layout-at.ensures in
    let n : c.layout-at.result.row - c.layout-at.result.filter ≡ 2 = omega (arith, l.row, l.filter) in
    let call = c.allpass.ensures in
    let v = c.read_line-v.ensures in
    (rw (v, n, l.filter, l.c_r) at call.0, rw (call.1, v, n, l.filter, l.c_r))
