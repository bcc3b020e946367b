-- Numbers at other places: past p bytes, and past the end, where each is 0. Assumes nothing.
use Rattle.std.specs.Prelude.{◌≡◌, List, ℕ, ◌+◌, ◌≤◌, length, drop}
use Rattle.std.proofs.Common.{add_assoc, arith, get_or-drop}
use Rattle.std.proofs.Math.ListN.{get_or-eq_default}
use Rattle.little_endian.specs.Numbers.{u16_at, u32_at, u64_at}

-- ---- a number past p bytes

pub u16_at_drop : (p : ℕ) (f : List ℕ) (k : ℕ) → u16_at (drop p f) k ≡ u16_at f (p + k)
unfolding u16_at
u16_at_drop p f k = cc (get_or-drop p f k 0, get_or-drop p f (k + 1) 0, add_assoc p k 1)

pub u32_at_drop : (p : ℕ) (f : List ℕ) (k : ℕ) → u32_at (drop p f) k ≡ u32_at f (p + k)
unfolding u32_at
u32_at_drop p f k = cc (u16_at_drop p f k, u16_at_drop p f (k + 2), add_assoc p k 2)

-- ---- a number past the end

module _ (f : List ℕ) (p : ℕ) (h : length f ≤ p) where
  pub u16_past : u16_at f p ≡ 0
  unfolding u16_at
  u16_past = rw (get_or-eq_default f 0 h, get_or-eq_default f 0 {n = p + 1} (omega arith))

pub u32_past : (f : List ℕ) (p : ℕ) → length f ≤ p → u32_at f p ≡ 0
unfolding u32_at
u32_past f p h = rw (u16_past f p h, u16_past f (p + 2) (omega arith))

pub u64_past : (f : List ℕ) (p : ℕ) → length f ≤ p → u64_at f p ≡ 0
unfolding u64_at
u64_past f p h = rw (u32_past f p h, u32_past f (p + 4) (omega arith))
