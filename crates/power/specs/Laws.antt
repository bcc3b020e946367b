-- Halves h and quarters 2h agree on every x, since each step of two halves is one of four quarters: both multiply by
-- x. So every word names a count of quarters, and a law of the power need only be proved of those. Assumes nothing.
use Rattle.std.specs.Prelude.{◌≡◌, refl, ℕ, zero, suc, ◌+◌, ◌-◌, ◌*◌, ◌<◌, Bool, true, false, cond, ltb, Float}
use Rattle.std.proofs.Common.{ap, ◌∙◌, arith, lt-ltb, le-ltb}
use Rattle.std.specs.Float.{binary64}
use Rattle.std.specs.Float.Ieee.{mul}
use Rattle.power.specs.Power.{halves_above, quarters_above, power_above, power_of, quarters_of}

-- a half is two quarters
halves_are : (x : Float) (h : ℕ) → halves_above x h ≡ quarters_above x (2 * h)
unfolding halves_above quarters_above
halves_are x zero = refl
halves_are x (suc zero) = refl
halves_are x (suc (suc zero)) = refl
halves_are x (suc (suc (suc zero))) = refl
halves_are x (suc (suc (suc (suc h)))) =
    let four : 2 * suc (suc h) ≡ suc (suc (suc (suc (2 * h)))) = omega arith in
    let eight : suc (suc (suc (suc (suc (suc (suc (suc (2 * h)))))))) ≡ 2 * suc (suc (suc (suc h))) = omega arith in
    ap (λ (y : Float). mul binary64 y x) (halves_are x (suc (suc h)) ∙ ap (quarters_above x) four) ∙ ap (quarters_above x) eight

-- whatever the word counts in
pub by_quarters : (x : Float) (word : ℕ) → power_above x word ≡ quarters_above x (quarters_of word)
unfolding power_above quarters_of
by_quarters x word = go (ltb word 256)
  where
    go : (b : Bool) → cond b (halves_above x word) (quarters_above x (word - 256)) ≡ quarters_above x (cond b (2 * word) (word - 256))
    go true = halves_are x word
    go false = refl

-- ---- THE LAW: the word h, of halves, and the word 256 + 2h, of quarters, name one power

pub halves_quarters : (x : Float) (h : ℕ) → h < 256 → power_of x h ≡ power_of x (256 + 2 * h)
unfolding power_of power_above
halves_quarters x h l =
    let e : 256 + 2 * h - 256 ≡ 2 * h = omega arith in
    rw (lt-ltb h 256 l, le-ltb (256 + 2 * h) 256 (omega arith), e, halves_are x h)
