-- The invariant: the first i are written. Assumes nothing.
use Rattle.std.proofs.Common.{◌≡◌, ◌*◌, length, take}
use Rattle.std.proofs.lemmas.List.Edits.{sets}
use Rattle.session_words.specs.Items.{joined}
use Rattle.session_words.proofs.words.put_items.Given as goal

abbrev pub invariant-loop-i : goal.invariant-loop-i
invariant-loop-i g l =
    let written = joined g.T.Words.words_of (take l.i l.items) in
    record { size : length written ≡ g.T.Words.SIZE * l.i; stored : l.words ≡ sets l.initial.words l.at written }
