-- The invariant: the places before j hold the section's strings. Start, turn and end are laws of proofs/Filled.antt.
use Rattle.std.proofs.Common.{◌≡◌, length}
use Rattle.instrument_file.specs.File.{loop_in}
use Rattle.instrument_file.proofs.Filled.{Stored}
use Rattle.instrument_file.proofs.read_strings.Given as goal

abbrev pub invariant-loop-j : goal.invariant-loop-j
invariant-loop-j l = (l.j-end ≡ length l.fn.out) × Stored (loop_in l.b) l.fn.out l.out l.j
