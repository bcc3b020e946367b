-- `filter::allpass` meets its contract. Assumes nothing.
use native.Mathlib.Omega.{arith}
use Rattle.filter.specs.Filter.{allpass_of}
use Rattle.filter.proofs.Stage.{stage_short, stage_whole}
use Rattle.filter.proofs.allpass.Goals as goal

pub returns-then-cells-lt2 : goal.returns-then-cells-lt2
returns-then-cells-lt2 c = stage_short c.args.a c.args.x c.args.cells.now (omega arith)

pub returns : goal.returns
unfolding allpass_of
returns c = let at = c.args in stage_whole at.a at.x at.cells.now (omega arith)
