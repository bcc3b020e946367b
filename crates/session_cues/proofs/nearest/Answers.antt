-- The greatest kept cue not above p, from the slots or from the set.
use Rattle.std.proofs.Common.{◌∙◌, ap, rules, tests, leb, ◌&&◌}
use Rattle.std.proofs.lemmas.Iterator.{YieldsList-from_slice, YieldsList-from_map}
use Rattle.std.proofs.lemmas.Iterator.Consumers.{YieldsList-at, YieldsList-from_filter, max_from_yields_List}
use Rattle.positions.specs.Positions.{greatest}
use Rattle.session_cues.specs.declared.Cue.{Cue}
use Rattle.session_cues.proofs.Slots.{kept_to_is, greatest_is}
use Rattle.session_cues.proofs.nearest.Goals as goal

pub returns : goal.returns
returns c =
    let cues = c.args.cues.now in
    c.unwrap_or.ensures
    ∙ greatest_is c.max.result _
    (max_from_yields_List c.map.result _ c.max.ensures.ran
    (YieldsList-from_map _ (λ (cue : Cue). cue.position)
    (YieldsList-at c.map.ensures.source
    (YieldsList-from_filter _ (λ (cue : Cue). cue.kept && leb cue.position c.args.p) (YieldsList-from_slice cues cc)
    c.filter.ensures.closure (λ x b q k. search (rules, tests))))
    c.map.ensures.closure (λ x b q k. search (rules, tests))))
    ∙ ap greatest (kept_to_is c.args.p cues)
