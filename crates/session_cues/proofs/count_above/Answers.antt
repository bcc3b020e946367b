-- The kept cues above q, counted in the slots or in the set.
use Rattle.std.proofs.Common.{rules}
use Rattle.session_cues.proofs.Slots.{lost_is}
use Rattle.session_cues.proofs.count_above.Goals as goal

pub returns : goal.returns
returns c = rw (← (lost_is c.args.q c.args.cues.now)) (search rules)
