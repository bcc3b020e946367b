-- The later events copied down by one, over the one that goes.
use Rattle.std.proofs.Common.{rules}
use Rattle.score_edits.proofs.Moves.{event_removed}
use Rattle.score_edits.proofs.remove_event.Goals as goal

pub returns : goal.returns
returns c = event_removed c.args.events c.args.count c.args.index _ (search rules) c.requires.1 c.requires.0 c.copy_from_slice.ensures.after
