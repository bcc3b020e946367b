-- The places are those of the definitions, and a u32 is below 2^32.
use Rattle.instrument_file.specs.File.{offset_of, length_of}
use native.Mathlib.Omega.{arith}
use Rattle.instrument_file.proofs.Sections.pair.Goals as goal

pub returns : goal.returns
unfolding offset_of length_of
returns c = (cc, cc, omega arith, omega arith)
