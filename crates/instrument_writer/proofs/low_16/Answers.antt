-- What lies past 16 bits is not stored: `low_half`.
use Rattle.instrument_writer.proofs.Stored.{low_half}
use Rattle.instrument_writer.proofs.low_16.Goals as goal

pub returns : goal.returns
returns c = low_half c.args.x
