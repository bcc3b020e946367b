-- Every value of the record's type has what the laws ask.
use Rattle.instrument_encoding.proofs.Given.{typed}
use Rattle.instrument_encoding.proofs.Promises.{given_test}
use Rattle.instrument_encoding.proofs.is_given.Goals as goal

pub returns : goal.returns
returns c = given_test c.args.i _ (typed c.args.i _ c.well_formed.0) c.is_valid.ensures
