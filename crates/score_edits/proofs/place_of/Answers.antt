-- How many of the first events may precede it.
use Rattle.std.proofs.Common.{rules, tests, ◌≡◌, ◌∙◌, arith, sym}
use Rattle.std.specs.List.{prefix_len}
use Rattle.std.proofs.lemmas.Iterator.{YieldsList-from_slice}
use Rattle.std.proofs.lemmas.Iterator.Consumers.{count_from_yields_List}
use Rattle.std.proofs.lemmas.Iterator.Search.{YieldsList-from_take_while}
use Rattle.std.proofs.lemmas.List.Folds.{length-prefix_len}
use Rattle.std.proofs.lemmas.List.Sums.{prefix_len-le-length}
use Rattle.score_edits.specs.Edits.{may_precede}
use Rattle.score_edits.proofs.Walk.{place_is}
use Rattle.score_edits.proofs.place_of.Goals as goal

pub returns : goal.returns
returns c =
    let score = c.args.score.now in
    let timed = c.args.timed.now in
    let many : c.count.result ≡ prefix_len (λ x. may_precede x timed) score =
    count_from_yields_List c.take_while.result _ c.count.ensures.ran
    (YieldsList-from_take_while _ (λ x. may_precede x timed) (YieldsList-from_slice score cc)
    c.take_while.ensures.closure c.take_while.ensures.done (λ x b q k. search (rules, tests)))
    ∙ length-prefix_len (λ x. may_precede x timed) score in
    (many ∙ place_is score timed, omega (arith, prefix_len-le-length (λ x. may_precede x timed) score))
