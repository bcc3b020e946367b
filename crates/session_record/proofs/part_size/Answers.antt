-- What the instrument's count gives for a record that passes is W.
use mathlib.Core.Path.{◌∙◌}
use Rattle.instrument.specs.WorkLaws.{part_counted}
use Rattle.session_record.proofs.part_size.Goals as goal

pub returns : goal.returns
returns c = c.part_cells.ensures.0 ∙ part_counted c.args.instrument c.requires
