-- What the writer's call gives where a record is written from C or Rust: its answer in numbers. Definitions only: assumes nothing.
use Rattle.std.specs.Prelude.{◌≡◌, List, ℕ, Result}
use Rattle.instrument.specs.declared.Instrument.{Instrument}
use Rattle.refusal.specs.declared.Refusal.{Refusal}
use Rattle.refusal.specs.Refusal.{number_in}
use Rattle.instrument_writer.specs.Write.{length_in, WriteMeets}

-- the refusal's number, 0 for none, and the file's length, 0 beside a number; bytes are those lent, before and after
pub record WriteCrosses (i : Instrument) (bytes : List ℕ) (number size : ℕ) (bytes' : List ℕ) : Type 0 where
  pub answer : Result ℕ Refusal
  pub meets : WriteMeets i bytes answer bytes'
  pub numbered : number ≡ number_in answer
  pub sized : size ≡ length_in answer
