-- The strings behind the head: `key_stored`.
use mathlib.Core.Path.{ap, ◌∙◌}
use Prim.Native.Nat.{ℕ, ◌+◌}
use lib.Seq.{sets}
use Rattle.counting.specs.Below.{gather}
use Rattle.instrument.specs.Valid.{string_at}
use Rattle.instrument_encoding.specs.Encode.{string_bytes}
use Rattle.instrument_writer.proofs.Records.{key_stored}
use Rattle.instrument_writer.proofs.put_key.Goals as goal

pub returns : goal.returns
returns c =
    let a = c.args in
    let same = ap (λ (n : ℕ). sets c.put_head.new.b (a.p + 36) (gather n (λ j. string_bytes (string_at a.strings.now j)))) c.requires.2 in
    key_stored a.b.now _ _ a.p a.k (λ j. string_at a.strings.now j) c.put_head.ensures (c.put_strings.ensures ∙ same)
