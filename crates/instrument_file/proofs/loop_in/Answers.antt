-- The 44 bytes at the string's place, read as a string: no sum of places wraps, since j is below 256.
use Rattle.instrument_file.specs.File.{loop_in}
use Rattle.instrument_file.proofs.loop_in.Goals as goal

pub returns : goal.returns
unfolding loop_in
returns c = cc
