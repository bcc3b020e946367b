-- Numbers and their bytes, both ways. Assumes nothing.
use Rattle.std.specs.Prelude.{◌≡◌, not, ℕ, zero, suc, ◌+◌, ◌*◌, ◌/◌, ◌%◌, ◌≤◌, ◌<◌, T, length, take, Float}
use Rattle.std.proofs.Common.{sym, ◌∙◌, add-one, get_or-drop, drop-drop, take-add}
use Rattle.std.proofs.Math.Path.{ap}
use mathlib.Core.List.{List, [], ◌∷◌, ◌++◌}
use native.Mathlib.Omega.{arith}
use Rattle.std.proofs.Math.ListN.{get_or, drop}
use Rattle.std.proofs.Math.Seq.{drop-cons}
use Rattle.std.specs.Float.Ieee.{binary64, of_bits, to_bits, is_nan, fits}
use Rattle.std.specs.Float.Ieee.Bits.{to_bits-of_bits, of_bits-to_bits, to_bits-lt}
use Rattle.little_endian.specs.Numbers.{u16_at, u32_at, u64_at, f64_at, le16, le32, le64, le_f64}

-- every element is a byte
abbrev pub Bytes : List ℕ → Type 0
Bytes f = (p : ℕ) → get_or f p 0 < 256

bytes_drop : (p : ℕ) (f : List ℕ) → Bytes f → Bytes (drop p f)
bytes_drop p f h k = rw get_or-drop (h (p + k))

bytes_take : (n : ℕ) (f : List ℕ) → Bytes f → Bytes (take n f)
bytes_take zero f h k = omega arith
bytes_take (suc n) [] h k = omega arith
bytes_take (suc n) (x ∷ f) h zero = h 0
bytes_take (suc n) (x ∷ f) h (suc k) = bytes_take n f (λ j. h (suc j)) k

-- a part's bytes are the list's
pub bytes_part : (p n : ℕ) (f : List ℕ) → Bytes f → Bytes (take n (drop p f))
bytes_part p n f h = bytes_take n (drop p f) (bytes_drop p f h)

-- ---- a part next to a part

module _ {A : Type 0} where
  pub both : {xs ys xs' ys' : List A} → xs ≡ xs' → ys ≡ ys' → xs ++ ys ≡ xs' ++ ys'
  both {ys = ys} {xs' = xs'} e g = ap (λ (l : List A). l ++ ys) e ∙ ap (λ (l : List A). xs' ++ l) g

  pub join : (b : List A) (p k r : ℕ) → take k (drop p b) ++ take r (drop (p + k) b) ≡ take (k + r) (drop p b)
  join b p k r = ap (λ (l : List A). take k (drop p b) ++ take r l) (sym (drop-drop k p b)) ∙ sym (take-add k r (drop p b))

  -- the k elements from p on and the r after them
  pub part_next : (b : List A) (p k r : ℕ) {x y : List A} → x ≡ take k (drop p b) → y ≡ take r (drop (p + k) b) → x ++ y ≡ take (k + r) (drop p b)
  part_next b p k r e g = both e g ∙ join b p k r

-- ---- from the number to the bytes that it was read from

low_16 : (x y : ℕ) → x < 256 → (x + 256 * y) % 256 ≡ x
low_16 x y h = omega arith

high_16 : (x y : ℕ) → x < 256 → y < 256 → (x + 256 * y) / 256 % 256 ≡ y
high_16 x y h k = omega arith

low_32 : (x y : ℕ) → x < 65536 → (x + 65536 * y) % 65536 ≡ x
low_32 x y h = omega arith

high_32 : (x y : ℕ) → x < 65536 → (x + 65536 * y) / 65536 ≡ y
high_32 x y h = omega arith

low_64 : (x y : ℕ) → x < 4294967296 → (x + 4294967296 * y) % 4294967296 ≡ x
low_64 x y h = omega arith

high_64 : (x y : ℕ) → x < 4294967296 → (x + 4294967296 * y) / 4294967296 ≡ y
high_64 x y h = omega arith

module _ (b : List ℕ) (ok : Bytes b) where
  pub u16_below : (p : ℕ) → u16_at b p < 65536
  unfolding u16_at
  u16_below p = let h = ok p in let k = ok (p + 1) in omega arith

  pub u32_below : (p : ℕ) → u32_at b p < 4294967296
  unfolding u32_at
  u32_below p = let h = u16_below p in let k = u16_below (p + 2) in omega arith

  pub u64_below : (p : ℕ) → u64_at b p < 18446744073709551616
  unfolding u64_at
  u64_below p = let h = u32_below p in let k = u32_below (p + 4) in omega arith

  pub le16_part : (p : ℕ) → p + 2 ≤ length b → le16 (u16_at b p) ≡ take 2 (drop p b)
  unfolding le16 u16_at
  le16_part p h =
      let x = get_or b p 0 in
      let y = get_or b (p + 1) 0 in
      let e : drop p b ≡ x ∷ (y ∷ drop (suc (p + 1)) b) =
      drop-cons b p 0 (omega arith) ∙ ap (λ (l : List ℕ). x ∷ l) (ap (λ (n : ℕ). drop n b) (sym (add-one p)) ∙ drop-cons b (p + 1) 0 (omega arith)) in
      rw (low_16 x y (ok p), high_16 x y (ok p) (ok (p + 1)), e)

  pub le32_part : (p : ℕ) → p + 4 ≤ length b → le32 (u32_at b p) ≡ take 4 (drop p b)
  unfolding le32 u32_at
  le32_part p h =
      let x = u16_at b p in
      let y = u16_at b (p + 2) in
      both (ap le16 (low_32 x y (u16_below p)) ∙ le16_part p (omega arith)) (ap le16 (high_32 x y (u16_below p)) ∙ le16_part (p + 2) (omega arith))
      ∙ join b p 2 2

  pub le64_part : (p : ℕ) → p + 8 ≤ length b → le64 (u64_at b p) ≡ take 8 (drop p b)
  unfolding le64 u64_at
  le64_part p h =
      let x = u32_at b p in
      let y = u32_at b (p + 4) in
      both (ap le32 (low_64 x y (u32_below p)) ∙ le32_part p (omega arith)) (ap le32 (high_64 x y (u32_below p)) ∙ le32_part (p + 4) (omega arith))
      ∙ join b p 4 4

  pub f64_part : (p : ℕ) → p + 8 ≤ length b → T (not (is_nan (f64_at b p))) → le_f64 (f64_at b p) ≡ take 8 (drop p b)
  unfolding le_f64 f64_at
  f64_part p h k = ap le64 (to_bits-of_bits binary64 (u64_at b p) (u64_below p) k) ∙ le64_part p h

-- ---- from the bytes to the number that they were written from

pub u16_back : (x : ℕ) (r : List ℕ) → x < 65536 → u16_at (le16 x ++ r) 0 ≡ x
unfolding u16_at le16
u16_back x r h = omega arith

split_32 : (x : ℕ) → x % 65536 + 65536 * (x / 65536) ≡ x
split_32 x = omega arith

pub u32_back : (x : ℕ) (r : List ℕ) → x < 4294967296 → u32_at (le32 x ++ r) 0 ≡ x
unfolding u32_at le32 le16 u16_at
u32_back x r h =
    let a = u16_back (x % 65536) r (omega arith) in
    let b = u16_back (x / 65536) r (omega arith) in
    rw (a, b) (split_32 x)

split_64 : (x : ℕ) → x % 4294967296 + 4294967296 * (x / 4294967296) ≡ x
split_64 x = omega arith

pub u64_back : (x : ℕ) (r : List ℕ) → x < 18446744073709551616 → u64_at (le64 x ++ r) 0 ≡ x
unfolding u64_at le64 le32 le16 u32_at u16_at
u64_back x r h =
    let a = u32_back (x % 4294967296) r (omega arith) in
    let b = u32_back (x / 4294967296) r (omega arith) in
    rw (a, b) (split_64 x)

pub f64_back : (x : Float) (r : List ℕ) → T (fits binary64 x) → f64_at (le_f64 x ++ r) 0 ≡ x
unfolding f64_at le_f64
f64_back x r h = ap (of_bits binary64) (u64_back (to_bits binary64 x) r (to_bits-lt binary64 x h)) ∙ of_bits-to_bits binary64 x h

-- ---- the bytes written are bytes

module _ (x y : List ℕ) (hx : Bytes x) (hy : Bytes y) where
  pub bytes_append : Bytes (x ++ y)
  bytes_append = go x hx
    where
      go : (l : List ℕ) → Bytes l → Bytes (l ++ y)
      go [] h k = hy k
      go (a ∷ l) h zero = h 0
      go (a ∷ l) h (suc k) = go l (λ j. h (suc j)) k

pub bytes_le16 : (x : ℕ) → Bytes (le16 x)
unfolding le16
bytes_le16 x zero = omega arith
bytes_le16 x (suc zero) = omega arith
bytes_le16 x (suc (suc k)) = omega arith

pub bytes_le32 : (x : ℕ) → Bytes (le32 x)
unfolding le32
bytes_le32 x = bytes_append (le16 (x % 65536)) (le16 (x / 65536)) (bytes_le16 (x % 65536)) (bytes_le16 (x / 65536))

pub bytes_le64 : (x : ℕ) → Bytes (le64 x)
unfolding le64
bytes_le64 x = bytes_append (le32 (x % 4294967296)) (le32 (x / 4294967296)) (bytes_le32 (x % 4294967296)) (bytes_le32 (x / 4294967296))

pub bytes_le_f64 : (x : Float) → Bytes (le_f64 x)
unfolding le_f64
bytes_le_f64 x = bytes_le64 (to_bits binary64 x)
