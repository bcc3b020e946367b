-- The lesser of the count and 64. Assumes nothing.
use Rattle.std.proofs.Common.{◌≡◌, refl, ◌∙◌, ℕ, Bool, true, false, cond, min, ◌≤◌, ◌<◌, arith, leb-true}
use Rattle.std.proofs.Math.Dec.{leb}
use Rattle.std.proofs.lemmas.Bool.{leb-false}
use Rattle.session_words.specs.Session.{counted_events}
use Rattle.session_words.proofs.session.counted_events.Goals as goal

pub returns : goal.returns
unfolding counted_events
returns c = c.min.ensures ∙ lesser c.args.count (leb c.args.count 64) refl
  where
    lesser : (n : ℕ) (b : Bool) → leb n 64 ≡ b → min n 64 ≡ cond b n 64
    lesser n true h = let le : n ≤ 64 = leb-true n 64 h in omega arith
    lesser n false h = let lt : 64 < n = leb-false n 64 h in omega arith
