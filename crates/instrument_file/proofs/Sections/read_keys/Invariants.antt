-- The invariant: the places before k hold the section's keys. Start, turn and end are laws of proofs/Filled.antt.
use Rattle.std.proofs.Common.{◌≡◌, length}
use Rattle.instrument_fields.specs.Fields.{key_of}
use Rattle.instrument_file.specs.File.{key_section}
use Rattle.instrument_file.proofs.Filled.{Stored}
use Rattle.instrument_file.proofs.Sections.read_keys.Given as goal

abbrev pub invariant-loop-k : goal.invariant-loop-k
invariant-loop-k l = (l.k-end ≡ length l.fn.out) × Stored (λ k. key_of (key_section l.self.file.now k)) l.fn.out l.out l.k
