-- `all` answers by each item's test: `every_told`. Assumes nothing.
use Rattle.std.proofs.Common.{◌≡◌, ◌+◌, ◌*◌, drop, true, false, refl, rules, arith}
use Rattle.std.proofs.lemmas.Iterator.{cases_from_all, YieldsList-from_range}
use Rattle.session_words.proofs.Steps.{every_told}
use Rattle.session_words.proofs.words.all_stand.Goals as goal

pub returns : goal.returns
returns g c =
    let z = c.args in
    let w = z.words.now in
    let test = g.T.Words.has_meaning in
    let size = g.T.Words.SIZE in
    every_told test size c.all.result z.n z.at w
    (cases_from_all _ _ _ (λ k. test (drop (z.at + size * k) w) ≡ true) (λ k. test (drop (z.at + size * k) w) ≡ false) c.all.ensures.ran
    (YieldsList-from_range 0 z.n z.n refl (omega arith)) (λ x q k. search rules) (λ x q k. search rules))
