-- Neighbours in order, and each event sound: together the score's test.
use Rattle.std.proofs.Common.{rules, tests}
use Rattle.std.proofs.lemmas.Fn.{always_returns_same}
use Rattle.std.proofs.lemmas.Iterator.{YieldsList-from_slice}
use Rattle.std.proofs.lemmas.Iterator.Search.{all_from_yields_List}
use Rattle.score_edits.specs.Edits.{may_precede, sound_event}
use Rattle.score_edits.proofs.Walk.{score_sound}
use Rattle.score_edits.proofs.is_sound_score.Goals as goal

pub returns : goal.returns
returns c =
    score_sound c.args.score.now _ _
    (c.is_sorted_by.ensures.cases may_precede (always_returns_same _ _ _ (λ a r q k. search (rules, tests))))
    (all_from_yields_List sound_event _ _ _ c.all.ensures.ran (YieldsList-from_slice c.args.score.now cc) (λ x b q k. search (rules, tests)))
