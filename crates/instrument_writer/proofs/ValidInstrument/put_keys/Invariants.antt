-- The invariant: the sections of the first keys are stored up to `at`, and `rest` is the strings of the others. One turn is `key_turn`.
use mathlib.Core.Path.{◌≡◌}
use Prim.Native.Nat.{suc}
use lib.ListN.{length, drop}
use lib.Seq.{sets}
use Rattle.counting.specs.Below.{gather}
use Rattle.instrument.specs.Valid.{string_sum}
use Rattle.instrument_encoding.specs.Encode.{section_bytes}
use Rattle.instrument_writer.proofs.Loops.{AtKey}
use Rattle.instrument_writer.proofs.ValidInstrument.put_keys.Given as goal

abbrev pub invariant-loop-key : goal.invariant-loop-key
invariant-loop-key l =
    (length l.keys ≡ l.self.instrument.key_count)
    × (length l.b ≡ length l.initial.b)
    × (l.rest ≡ drop (string_sum l.self.instrument.keys l.key-index) l.self.instrument.strings)
    × AtKey l.self.instrument l.p (length l.initial.b) l.at l.key-index
    × (l.b ≡ sets l.initial.b l.p (gather l.key-index (λ k. section_bytes l.self.instrument (suc k))))
