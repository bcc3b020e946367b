-- A refused outcome gives its number alone; an accepted one is written over the words: `keeps_written`. Assumes nothing.
use Rattle.crossing.proofs.Returns.{keeps_refused, keeps_written}
use Rattle.crossing.proofs.keep.Goals as goal

pub returns-in-Err : goal.returns-in-Err
returns-in-Err c = keeps_refused c.args.outcome c.args.words.now _ _ c.in-Err.is c.refused_for.ensures

pub returns-in-Ok : goal.returns-in-Ok
returns-in-Ok c =
    keeps_written c.args.outcome c.args.words.now _ _ c.in-Ok.is c.answered.ensures _ _ c.requires c.put_session.ensures
