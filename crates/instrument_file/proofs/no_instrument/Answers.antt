-- An array of one value is the empty list filled up with it.
use Rattle.counting.specs.Below.{pad}
use Rattle.instrument_file.proofs.no_instrument.Goals as goal

pub returns : goal.returns
unfolding pad
returns c = cc
