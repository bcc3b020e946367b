-- The flag decides: `hammer_flies`, `hammer_rests`. Assumes nothing.
use Rattle.session_words.proofs.Pieces.{hammer_flies, hammer_rests}
use Rattle.std.proofs.Common.{sym, ◌∙◌}
use Rattle.session_words.proofs.piano.OptionFlightWords.read.Goals as goal

pub returns-then-read : goal.returns-then-read
returns-then-read c =
    let z = c.args in
    hammer_flies z.words.now z.at _ _ _ (sym c.if-read.true ∙ c.read.ensures) c.read-then-read.ensures c.read-then-read-2.ensures
    c.read-then-read-3.ensures

pub returns-else-read : goal.returns-else-read
returns-else-read c = hammer_rests c.args.words.now c.args.at (sym c.if-read.false ∙ c.read.ensures)
