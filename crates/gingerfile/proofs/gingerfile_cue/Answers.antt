-- What refuses file or words is answered, and nothing is written; else what cue promises and what `keep` writes are the promise. Assumes nothing.
use Rattle.gingerfile.proofs.Returns.{begun_long, call_refused, call_made}
use Rattle.std.proofs.Common.{refl}
use Rattle.gingerfile.proofs.gingerfile_cue.Goals as goal

pub keep-requires : goal.keep-requires
keep-requires c = begun_long c.begin.ensures _ c.in-Ok.is

pub returns-in-Ok : goal.returns-in-Ok
returns-in-Ok c = call_made c.begin.ensures _ c.in-Ok.is c.cued-outcome.ensures c.keep.ensures

pub returns-in-Err : goal.returns-in-Err
returns-in-Err c = call_refused c.begin.ensures _ c.in-Err.is c.refused_for.ensures refl
