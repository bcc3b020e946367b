-- `string::next_index` meets its contract: (t % L + 1) % L is (t + 1) % L, and t % L + 1 is at most L. Assumes nothing.
use mathlib.Core.Path.{◌≡◌, sym, ap, ◌∙◌}
use Prim.Native.Nat.{ℕ, ◌+◌, ◌%◌, ◌<◌}
use native.Mathlib.Nat.{mod-lt, mod_self, mod-eq_of_lt, mod-add-mod}
use native.Mathlib.Omega.{arith}
use Rattle.string.proofs.next_index.Goals as goal

module _ (t L i : ℕ) (h : i ≡ t % L) where
  carried : (i + 1) % L ≡ (t + 1) % L
  carried = ap (λ (k : ℕ). (k + 1) % L) h ∙ mod-add-mod t L 1

  wraps : i + 1 ≡ L → 0 ≡ (t + 1) % L
  wraps e = sym (mod_self L) ∙ ap (λ (k : ℕ). k % L) (sym e) ∙ carried

  goes_on : i + 1 < L → i + 1 ≡ (t + 1) % L
  goes_on l = sym (mod-eq_of_lt l) ∙ carried

pub overflow_add-next : goal.overflow_add-next
overflow_add-next c = let below = mod-lt c.args.t c.requires.has_cells in omega (arith, below, c.requires.idx_at_t)

pub returns-then-next-len : goal.returns-then-next-len
returns-then-next-len c = let at = c.args in wraps at.t at.len at.idx c.requires.idx_at_t c.if-next-len.true

pub returns-else-next-len : goal.returns-else-next-len
returns-else-next-len c =
    let at = c.args in
    let below = mod-lt at.t c.requires.has_cells in
    goes_on at.t at.len at.idx c.requires.idx_at_t (omega (arith, below, c.requires.idx_at_t, c.if-next-len.false))
