-- Document 02, W4, "Saving an instrument": what the writer promises. Definitions only: assumes nothing.
use Rattle.std.specs.Prelude.{◌≡◌, not, cond, List, ◌++◌, ℕ, ltb, length, take, drop, Result, Ok, Err}
use Rattle.counting.specs.Meets.{Meets}
use Rattle.instrument.specs.declared.Instrument.{Instrument}
use Rattle.instrument.specs.Valid.{valid}
use Rattle.instrument_file.specs.File.{accepted, read_of}
use Rattle.instrument_encoding.specs.Encode.{encode}
use Rattle.refusal.specs.declared.Refusal.{Refusal}
use Rattle.refusal.specs.Refusal.{numbered}

-- "A record that no accepted file gives is refused as 7"; "20, after 7, when the lent bytes are fewer than the file needs"
unfoldable pub write_refusal : Instrument → ℕ → ℕ
write_refusal i room = cond (not (valid i)) 7 (cond (ltb room (length (encode i))) 20 0)

-- "A refusal returns its number alone"
abbrev pub not_written : ℕ → Result ℕ Refusal
not_written number = Err (numbered number)

abbrev pub wrote : ℕ → Result ℕ Refusal
wrote n = Ok n

-- the file's length in an answer; 0 where the record is refused
abbrev pub length_in : Result ℕ Refusal → ℕ
length_in (Ok n) = n
length_in (Err e) = 0

-- an accepted call: "Bytes beyond the file are untouched, and the length is returned."
pub record Writes (i : Instrument) (bytes : List ℕ) (r : Result ℕ Refusal) (bytes' : List ℕ) : Type 0 where
  pub answer : r ≡ wrote (length (encode i))
  pub file : bytes' ≡ encode i ++ drop (length (encode i)) bytes
  -- reading the bytes that were written accepts them and gives the record
  pub back : read_of (take (length_in r) bytes') ≡ accepted i

-- what `write` promises of the record i and the lent bytes: its number; a refusal that "alters nothing"; or the file
abbrev pub WriteMeets : Instrument → List ℕ → Result ℕ Refusal → List ℕ → Type 0
WriteMeets i bytes r bytes' = Meets (write_refusal i (length bytes)) (λ n. (r ≡ not_written n) × (bytes' ≡ bytes)) (Writes i bytes r bytes')
