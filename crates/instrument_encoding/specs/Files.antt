-- What testing a record promises of accepted files. Definitions only: assumes nothing.
use Rattle.std.specs.Prelude.{◌≡◌, Bool, true, List, ℕ}
use Rattle.little_endian.specs.Bytes.{Bytes}
use Rattle.instrument.specs.declared.Instrument.{Instrument}
use Rattle.instrument_file.specs.File.{accepted, read_of}
use Rattle.instrument.specs.Valid.{valid}

-- a file, of bytes, that is accepted and gives i
pub record GivenBy (i : Instrument) : Type 0 where
  pub file : List ℕ
  pub bytes : Bytes file
  pub reads : read_of file ≡ accepted i

-- the test of i answers r: true exactly where some accepted file gives i
pub record GivenTest (i : Instrument) (r : Bool) : Type 0 where
  pub answer : r ≡ valid i
  pub every : r ≡ true → GivenBy i
  pub only : GivenBy i → r ≡ true
