-- A headed file's D is 2 to 17 (specs/FileLaws.antt), so that D - 1 is 1 to 16.
use native.Mathlib.Omega.{arith}
use Rattle.instrument_file.specs.FileLaws.{sections_low, sections_high}
use Rattle.instrument_file.proofs.key_count.Goals as goal

pub overflow_sub-result : goal.overflow_sub-result
overflow_sub-result c =
    omega (arith, sections_low c.args.f.now c.requires)

pub returns : goal.returns
returns c =
    let low = sections_low c.args.f.now c.requires in
    let high = sections_high c.args.f.now c.requires in
    (omega arith, omega arith, omega arith)
