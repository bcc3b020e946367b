-- What the writer promises of the record with the weights set. Assumes nothing.
use Rattle.gingerfile.proofs.written.Goals as goal

pub returns : goal.returns
returns c = rw c.set_weights.ensures at c.write.ensures
