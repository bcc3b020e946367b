-- As in the other calls, but the words may hold anything: their number alone is tested. Assumes nothing.
use Rattle.gingerfile.proofs.Returns.{open_refused, open_made, open_long}
use Rattle.std.proofs.Common.{refl}
use Rattle.gingerfile.proofs.gingerfile_open.Goals as goal

pub keep-requires : goal.keep-requires
keep-requires c = open_long c.begin_open.ensures _ c.in-Ok.is

pub returns-in-Ok : goal.returns-in-Ok
returns-in-Ok c = open_made c.begin_open.ensures _ c.in-Ok.is c.opened.ensures c.keep.ensures

pub returns-in-Err : goal.returns-in-Err
returns-in-Err c = open_refused c.begin_open.ensures _ c.in-Err.is c.refused_for.ensures refl
