-- The later events copied up by one, behind the new one.
use Rattle.std.proofs.Common.{rules, arith, length-take-le}
use Rattle.score_edits.proofs.Moves.{event_placed}
use Rattle.score_edits.proofs.place_event.Goals as goal

pub returns : goal.returns
returns c =
    let place = c.place_of-place.ensures in
    event_placed c.args.events c.args.count _ c.args.timed _ (search rules) c.requires
    (omega (arith, length-take-le c.args.count c.args.events)) place.0 c.copy_from_slice.ensures.after
