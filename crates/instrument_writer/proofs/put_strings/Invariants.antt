-- The invariant: the first j are stored. One turn is `string_next`.
use mathlib.Core.Path.{◌≡◌}
use Prim.Native.Nat.{◌+◌, ◌*◌, ◌≤◌}
use lib.ListN.{length}
use lib.Seq.{sets}
use Rattle.counting.specs.Below.{gather}
use Rattle.instrument.specs.Valid.{string_at}
use Rattle.instrument_encoding.specs.Encode.{string_bytes}
use Rattle.instrument_writer.proofs.put_strings.Given as goal

abbrev pub invariant-loop-j : goal.invariant-loop-j
invariant-loop-j l =
    (l.j-end ≡ length l.strings)
    × (l.p + 44 * length l.strings ≤ length l.initial.b)
    × (length l.b ≡ length l.initial.b)
    × (l.b ≡ sets l.initial.b l.p (gather l.j (λ j. string_bytes (string_at l.strings j))))
