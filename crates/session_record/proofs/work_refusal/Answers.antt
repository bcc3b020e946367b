-- Five parts of a record that passes fit a number.
use native.Mathlib.Omega.{arith}
use Rattle.instrument.specs.WorkLaws.{part_bound}
use Rattle.session_record.proofs.work_refusal.Goals as goal

pub overflow_mul-part_size : goal.overflow_mul-part_size
overflow_mul-part_size c = record { fits = omega (arith, c.part_size.ensures, part_bound c.args.instrument c.requires) }
