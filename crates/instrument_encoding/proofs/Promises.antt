-- The promise of refusal 7's test, from the laws. Assumes nothing.
use mathlib.Core.Path.{◌≡◌, sym, ◌∙◌}
use mathlib.Core.Bool.{Bool}
use Rattle.instrument.specs.declared.Instrument.{Instrument}
use Rattle.instrument.specs.Valid.{valid}
use Rattle.instrument_encoding.specs.Encode.{encode}
use Rattle.instrument_encoding.specs.Typed.{Typed}
use Rattle.instrument_encoding.specs.Accepted.{accepted_valid}
use Rattle.instrument_encoding.proofs.Reread.{encode_read}
use Rattle.instrument_encoding.proofs.Written.{bytes_encode}
use Rattle.instrument_encoding.specs.Files.{GivenTest}

pub given_test : (i : Instrument) (r : Bool) → Typed i → r ≡ valid i → GivenTest i r
given_test i r t e = record {
  answer = e;
  every = λ h. let v = sym e ∙ h in record { file = encode i; bytes = bytes_encode i t v; reads = encode_read i t v };
  only = λ g. e ∙ accepted_valid g.file i g.reads;
}
