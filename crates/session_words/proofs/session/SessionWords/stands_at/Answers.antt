-- Events, cues and piano are tested: `session_tested`. Assumes nothing.
use Rattle.session_words.proofs.Pieces.{session_tested}
use Rattle.std.proofs.Common.{ap, ◌∙◌, arith}
use Rattle.session_words.specs.Session.{counted_events}
use Rattle.session_words.specs.Laws.{few_counted}
use Rattle.session_words.proofs.session.SessionWords.stands_at.Goals as goal

pub all_stand-events-requires : goal.all_stand-events-requires
all_stand-events-requires c = let e = c.counted_events-count.ensures in let few = few_counted c.read.result in omega arith

pub returns : goal.returns
returns c =
    let z = c.args in
    session_tested z.words.now z.at _ _ _ _ (c.counted_events-count.ensures ∙ ap counted_events c.read.ensures) c.all_stand-events.ensures
    c.all_stand-cues.ensures c.stands_at-piano.ensures
