-- The invariant: the strings of the keys before k are in place, m of them, and zeros after them. Start, turn and end are laws of proofs/Filled.antt.
use Rattle.std.proofs.Common.{◌≡◌, take}
use Rattle.instrument_file.proofs.Filled.{StringsFilled}
use Rattle.instrument_file.proofs.Sections.strings_of.Given as goal

abbrev pub invariant-loop-k : goal.invariant-loop-k
invariant-loop-k l = (l.k-end ≡ l.self.keys) × (l.used ≡ take l.self.keys l.fn.keys) × StringsFilled l.self.file.now l.self.keys l.fn.keys l.out l.m l.k
