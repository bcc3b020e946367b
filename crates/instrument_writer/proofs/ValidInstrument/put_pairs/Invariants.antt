-- The invariant: the pairs of the first k keys are stored, and the next section starts at `offset`. One turn is `pair_next`.
use mathlib.Core.Path.{◌≡◌}
use Prim.Native.Nat.{suc}
use lib.ListN.{length}
use lib.Seq.{sets}
use Rattle.counting.specs.Below.{gather}
use Rattle.instrument_writer.specs.Pieces.{pair_bytes}
use Rattle.instrument_writer.proofs.Loops.{AtPair}
use Rattle.instrument_writer.proofs.ValidInstrument.put_pairs.Given as goal

abbrev pub invariant-loop-k : goal.invariant-loop-k
invariant-loop-k l =
    (l.k-end ≡ l.self.instrument.key_count)
    × (length l.b ≡ length l.initial.b)
    × AtPair l.self.instrument (length l.initial.b) l.offset l.k
    × (l.b ≡ sets l.initial.b 12 (gather l.k (λ k. pair_bytes l.self.instrument (suc k))))
