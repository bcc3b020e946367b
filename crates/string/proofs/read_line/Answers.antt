-- `string::read_line` meets its contract: a read of the line's own cells is a read of the part. Assumes nothing.
use mathlib.Core.Path.{◌≡◌, ap, ◌∙◌}
use Prim.Native.Nat.{ℕ, ◌+◌, ◌-◌}
use native.Mathlib.Omega.{arith}
use Rattle.std.proofs.Math.ListN.{take, drop}
use Rattle.cells.specs.Line.{line_read, line_read_lem}
use Rattle.string.proofs.read_line.Goals as goal

pub returns : goal.returns
returns c =
    let at = c.args in
    let a = at.a in
    let len = at.len in
    let p = at.part.now in
    let n : a + len - a ≡ len = omega arith in
    c.read.ensures ∙ ap (λ (k : ℕ). line_read at.t (take k (drop a p))) n ∙ line_read_lem a len at.t p c.requires.has_cells c.requires.lies_in_part
