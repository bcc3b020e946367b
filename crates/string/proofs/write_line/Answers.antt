-- `string::write_line` meets its contract: a write of the line's own cells is a write of the part. Assumes nothing.
use mathlib.Core.Path.{◌≡◌, ap, ◌∙◌}
use mathlib.Core.List.{List}
use Prim.Native.Nat.{ℕ, ◌+◌, ◌-◌}
use native.Mathlib.Omega.{arith}
use Rattle.std.proofs.Math.ListN.{take, drop}
use Rattle.std.specs.Float.Ieee.{Float}
use Rattle.cells.specs.Splice.{splice}
use Rattle.cells.specs.Line.{line_write, line_write_lem}
use Rattle.string.proofs.write_line.Goals as goal

pub returns : goal.returns
returns c =
    let at = c.args in
    let a = at.a in
    let len = at.len in
    let p = at.part.now in
    let n : a + len - a ≡ len = omega arith in
    ap (λ (l : List Float). splice a (a + len - a) l p) c.write.ensures
    ∙ ap (λ (k : ℕ). splice a k (line_write at.t at.v (take k (drop a p))) p) n ∙ line_write_lem a len at.t p c.requires.has_cells c.requires.lies_in_part at.v
