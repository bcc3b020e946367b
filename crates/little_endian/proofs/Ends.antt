-- Bytes read and stored at a place near the end of a list. Assumes nothing.
use Rattle.std.proofs.Common.{◌≡◌, refl, sym, ap, ◌∙◌, append_assoc, arith, min, get_or-take, get_or-drop, length-take-le, length-append}
use Rattle.std.proofs.Common.{length-take, length-drop, drop-drop, drop_of_length-le, take-append-drop}
use Rattle.std.proofs.Math.Logic.{⊎_elim}
use Rattle.std.proofs.lemmas.Bool.{cases_lt}
use mathlib.Core.List.{List, [], ◌∷◌, ◌++◌}
use Prim.Native.Nat.{ℕ, zero, suc, ◌+◌, ◌-◌, ◌/◌, ◌%◌, ◌≤◌, ◌<◌}
use lib.ListN.{length, take, drop, get_or, replicate}
use borrow.Rule.Slice.PartMut.{put_mid}
use Rattle.std.specs.Int.{from_le_bytes, to_le_bytes, w16, w32, w64}
use Rattle.std.specs.List.{slice_index}
use Rattle.std.proofs.lemmas.List.Edits.{sets, sets-eq}
use Rattle.little_endian.specs.Numbers.{bytes_at, u16_at, u32_at, u64_at, le16, le32, le64}
use Rattle.little_endian.specs.Stores.{sets_next, sets_out}

-- ---- reads

zeros : (n i : ℕ) → ◌≡◌ {A = ℕ} (get_or (replicate n 0) i 0) 0
zeros zero i = refl
zeros (suc n) zero = refl
zeros (suc n) (suc i) = zeros n i

padded : (l : List ℕ) (n i : ℕ) → get_or (l ++ replicate n 0) i 0 ≡ get_or l i 0
padded [] n i = zeros n i
padded (x ∷ l) n zero = refl
padded (x ∷ l) n (suc i) = padded l n i

-- a byte that was read, at its place q
byte_is : (f : List ℕ) (p n i q : ℕ) → i < n → p + i ≡ q → slice_index (bytes_at n f p) i ≡ get_or f q 0
byte_is f p n i q h e =
    get_or-take n (drop p f ++ replicate n 0) i 0 h ∙ padded (drop p f) n i ∙ get_or-drop p f i 0 ∙ ap (λ (k : ℕ). get_or f k 0) e

module _ (f : List ℕ) (p : ℕ) where
  pub read_16 : from_le_bytes w16 (bytes_at 2 f p) ≡ u16_at f p
  unfolding u16_at
  read_16 =
      let b0 = byte_is f p 2 0 (p) (omega arith) (omega arith) in
      let b1 = byte_is f p 2 1 (p + 1) (omega arith) (omega arith) in
      omega (arith, b0, b1)

  pub read_32 : from_le_bytes w32 (bytes_at 4 f p) ≡ u32_at f p
  unfolding u32_at u16_at
  read_32 =
      let b0 = byte_is f p 4 0 (p) (omega arith) (omega arith) in
      let b1 = byte_is f p 4 1 (p + 1) (omega arith) (omega arith) in
      let b2 = byte_is f p 4 2 (p + 2) (omega arith) (omega arith) in
      let b3 = byte_is f p 4 3 (p + 2 + 1) (omega arith) (omega arith) in
      omega (arith, b0, b1, b2, b3)

  pub read_64 : from_le_bytes w64 (bytes_at 8 f p) ≡ u64_at f p
  unfolding u64_at u32_at u16_at
  read_64 =
      let b0 = byte_is f p 8 0 (p) (omega arith) (omega arith) in
      let b1 = byte_is f p 8 1 (p + 1) (omega arith) (omega arith) in
      let b2 = byte_is f p 8 2 (p + 2) (omega arith) (omega arith) in
      let b3 = byte_is f p 8 3 (p + 2 + 1) (omega arith) (omega arith) in
      let b4 = byte_is f p 8 4 (p + 4) (omega arith) (omega arith) in
      let b5 = byte_is f p 8 5 (p + 4 + 1) (omega arith) (omega arith) in
      let b6 = byte_is f p 8 6 (p + 4 + 2) (omega arith) (omega arith) in
      let b7 = byte_is f p 8 7 (p + 4 + 2 + 1) (omega arith) (omega arith) in
      omega (arith, b0, b1, b2, b3, b4, b5, b6, b7)

-- ---- stores

pub bytes_16 : (x : ℕ) → to_le_bytes w16 x ≡ le16 x
unfolding le16
bytes_16 x = refl

pub bytes_32 : (x : ℕ) → to_le_bytes w32 x ≡ le32 x
unfolding le32 le16
bytes_32 x =
    let b0 : x % 256 ≡ x % 65536 % 256 = omega arith in
    let b1 : x / 256 % 256 ≡ x % 65536 / 256 % 256 = omega arith in
    let b3 : x / 16777216 % 256 ≡ x / 65536 / 256 % 256 = omega arith in
    cc (b0, b1, b3)

pub bytes_64 : (x : ℕ) → to_le_bytes w64 x ≡ le64 x
unfolding le64 le32 le16
bytes_64 x =
    let b0 : x % 256 ≡ x % 4294967296 % 65536 % 256 = omega arith in
    let b1 : x / 256 % 256 ≡ x % 4294967296 % 65536 / 256 % 256 = omega arith in
    let b2 : x / 65536 % 256 ≡ x % 4294967296 / 65536 % 256 = omega arith in
    let b3 : x / 16777216 % 256 ≡ x % 4294967296 / 65536 / 256 % 256 = omega arith in
    let b4 : x / 4294967296 % 256 ≡ x / 4294967296 % 65536 % 256 = omega arith in
    let b5 : x / 1099511627776 % 256 ≡ x / 4294967296 % 65536 / 256 % 256 = omega arith in
    let b6 : x / 281474976710656 % 256 ≡ x / 4294967296 / 65536 % 256 = omega arith in
    let b7 : x / 72057594037927936 % 256 ≡ x / 4294967296 / 65536 / 256 % 256 = omega arith in
    cc (b0, b1, b2, b3, b4, b5, b6, b7)

-- the first n of some bytes, stored from p on, where n is how many have room
module _ (l vs : List ℕ) (p n : ℕ) (e : n ≡ min (length vs) (length l - p)) (h : p < length l) where
  abbrev t : List ℕ
  t = take n vs

  t_length : length t ≡ n
  t_length = length-take-le n vs (omega (arith, e))

  t_fits : p + length t ≤ length l
  t_fits = omega (arith, t_length, e)

  front_is : put_mid p (p + n - p) l t ≡ sets l p t
  front_is =
      let k : p + n - p ≡ length t = omega (arith, t_length) in
      ap (λ (j : ℕ). take p l ++ (t ++ drop j (drop p l))) k
      ∙ ap (λ (r : List ℕ). take p l ++ (t ++ r)) (drop-drop (length t) p l)
      ∙ sym (append_assoc (take p l) t (drop (p + length t) l)) ∙ sym (sets-eq t l p t_fits)

  sets_length : length (sets l p t) ≡ length l
  sets_length = ap length (sets-eq t l p t_fits) ∙ simp (length-append, length-take, length-drop) (omega (arith, t_length, e))

  rest_is : sets (sets l p t) (p + length t) (drop n vs) ≡ sets l p t
  rest_is =
      ⊎_elim
      (λ (q : n < length vs). sets_out (sets l p t) (drop n vs) (p + length t) (omega (arith, sets_length, t_length, e)))
      (λ (q : length vs ≤ n). rw (drop_of_length-le vs q))
      (cases_lt n (length vs))

  pub put_is : put_mid p (p + n - p) l t ≡ sets l p vs
  put_is = front_is ∙ sym rest_is ∙ sets_next l t (drop n vs) p (p + length t) refl ∙ ap (λ (v : List ℕ). sets l p v) (take-append-drop n vs)
