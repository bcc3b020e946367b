-- The power by cases, as the code tests them. Assumes nothing.
use mathlib.Core.Path.{◌≡◌, refl, sym, ap, ◌∙◌}
use Prim.Native.Nat.{ℕ, zero, suc, ◌-◌, ◌≤◌, ◌<◌}
use native.Mathlib.Omega.{arith}
use mathlib.Core.Bool.{true, false}
use borrow.Author.Tests.{lt-ltb, le-ltb}
use lib.Ieee.{Float, binary64, mul, lt, is_nan}
use Rattle.float.specs.Float.{zero as +0}
use Rattle.float.specs.Numbers.{one_nan}
use Rattle.root.specs.Root.{root_of}
use Rattle.power.specs.Power.{halves_above, quarters_above, power_above, power_of}

-- ---- above 0 the word decides between halves and quarters

in_halves : (x : Float) (word : ℕ) → lt +0 x ≡ true → word < 256 → power_of x word ≡ halves_above x word
unfolding power_of power_above
in_halves x word t l = rw (t, lt-ltb word 256 l)

in_quarters : (x : Float) (word : ℕ) → lt +0 x ≡ true → 256 ≤ word → power_of x word ≡ quarters_above x (word - 256)
unfolding power_of power_above
in_quarters x word t l = rw (t, le-ltb word 256 l)

-- ---- halves

few : (x : Float) (h : ℕ) → h ≤ 2 → halves_above x h ≡ x
unfolding halves_above
few x zero l = refl
few x (suc zero) l = refl
few x (suc (suc zero)) l = refl
few x (suc (suc (suc h))) l = absurd (omega arith)

pub halves_two : (x : Float) (word : ℕ) → lt +0 x ≡ true → word ≤ 2 → x ≡ power_of x word
halves_two x word t l = sym (in_halves x word t (omega arith) ∙ few x word l)

pub halves_three : (x r : Float) (word : ℕ) → lt +0 x ≡ true → word ≡ 3 → r ≡ root_of x → mul binary64 x r ≡ power_of x word
unfolding halves_above
halves_three x r word t e q = ap (mul binary64 x) q ∙ sym (in_halves x word t (omega arith) ∙ ap (halves_above x) e)

-- from 4 on: two fewer, times x
pub halves_more : (x r : Float) (word : ℕ) → lt +0 x ≡ true → 2 < word → (word ≡ 3 → ⊥) → word < 256
    → r ≡ power_of x (word - 2) → mul binary64 r x ≡ power_of x word
unfolding halves_above
halves_more x r word t l n m q =
    let j = word - 4 in
    let a : word ≡ suc (suc (suc (suc j))) = omega arith in
    let b : word - 2 ≡ suc (suc j) = omega arith in
    ap (λ (y : Float). mul binary64 y x) (q ∙ in_halves x (word - 2) t (omega arith) ∙ ap (halves_above x) b)
    ∙ sym (in_halves x word t m ∙ ap (halves_above x) a)

-- ---- quarters

pub quarters_four : (x : Float) (e : ℕ) → e ≤ 4 → x ≡ quarters_above x e
unfolding quarters_above
quarters_four x zero l = refl
quarters_four x (suc zero) l = refl
quarters_four x (suc (suc zero)) l = refl
quarters_four x (suc (suc (suc zero))) l = refl
quarters_four x (suc (suc (suc (suc zero)))) l = refl
quarters_four x (suc (suc (suc (suc (suc e))))) l = absurd (omega arith)

pub quarters_five : (x r s : Float) (e : ℕ) → e ≡ 5 → r ≡ root_of x → s ≡ root_of r → mul binary64 x s ≡ quarters_above x e
unfolding quarters_above
quarters_five x r s e k q w = rw (w, q, k)

pub quarters_six : (x r : Float) (e : ℕ) → e ≡ 6 → r ≡ root_of x → mul binary64 x r ≡ quarters_above x e
unfolding quarters_above
quarters_six x r e k q = rw (q, k)

pub quarters_seven : (x r s : Float) (e : ℕ) → e ≡ 7 → r ≡ root_of x → s ≡ root_of r → mul binary64 (mul binary64 x r) s ≡ quarters_above x e
unfolding quarters_above
quarters_seven x r s e k q w = rw (w, q, k)

pub quarters_few : (x r : Float) (word : ℕ) → lt +0 x ≡ true → 256 ≤ word → r ≡ quarters_above x (word - 256) → r ≡ power_of x word
quarters_few x r word t l q = q ∙ sym (in_quarters x word t l)

-- from 8 on: four fewer, times x
pub quarters_more : (x r : Float) (word : ℕ) → lt +0 x ≡ true → 264 ≤ word → r ≡ power_of x (word - 4) → mul binary64 r x ≡ power_of x word
unfolding quarters_above
quarters_more x r word t l q =
    let j = word - 264 in
    let a : word - 256 ≡ suc (suc (suc (suc (suc (suc (suc (suc j))))))) = omega arith in
    let b : word - 4 - 256 ≡ suc (suc (suc (suc j))) = omega arith in
    ap (λ (y : Float). mul binary64 y x) (q ∙ in_quarters x (word - 4) t (omega arith) ∙ ap (quarters_above x) b)
    ∙ sym (in_quarters x word t (omega arith) ∙ ap (quarters_above x) a)

-- ---- no number above 0

pub power_nan : (x : Float) (word : ℕ) → lt +0 x ≡ false → is_nan x ≡ true → x ≡ power_of x word
unfolding power_of is_nan
power_nan x word t n = rw t (rw (one_nan x n))

pub power_none : (x : Float) (word : ℕ) → lt +0 x ≡ false → is_nan x ≡ false → +0 ≡ power_of x word
unfolding power_of
power_none x word t n = rw (t, n)
