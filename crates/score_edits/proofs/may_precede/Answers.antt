-- Positions and ranks as pairs: the library's order of pairs is the definition's.
use Rattle.std.proofs.Common.{◌∙◌}
use Rattle.score_edits.specs.Edits.{may_precede}
use Rattle.score_edits.proofs.Walk.{pairs_are}
use Rattle.score_edits.proofs.may_precede.Goals as goal

pub returns : goal.returns
unfolding may_precede
returns c =
    let x = c.args.x.now in
    let y = c.args.y.now in
    rw (← c.rank_of.ensures, ← c.rank_of-2.ensures) (c.le.ensures ∙ pairs_are x.position c.rank_of.result y.position c.rank_of-2.result)
