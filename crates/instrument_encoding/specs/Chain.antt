-- A file whose pairs chain is its table and its sections. Assumes nothing.
use Rattle.std.specs.Prelude.{◌≡◌, true, List, ◌++◌, drop}
use Rattle.std.proofs.Math.Path.{sym, ap}
use Rattle.std.proofs.Common.{◌∙◌, le_refl, add-one}
use Prim.Native.Nat.{ℕ, zero, suc, ◌+◌, ◌*◌, ◌≤◌, ◌<◌}
use native.Mathlib.Omega.{arith}
use Rattle.std.proofs.Math.ListN.{length, take, length-drop}
use Rattle.std.proofs.Math.Seq.{length-take-le, take_all}
use borrow.Author.Tests.{eqb-true}
use Rattle.little_endian.specs.Numbers.{u32_at, le32}
use Rattle.little_endian.specs.Bytes.{Bytes, both, part_next, le32_part}
use Rattle.counting.specs.Every.{holds}
use Rattle.counting.specs.Below.{sum_below}
use Rattle.counting.specs.Laws.{all_at, sum_more, sum_within, sum_cong, gather_cong}
use Rattle.instrument_file.specs.File.{offset_of, length_of, section, linked, chained}
use Rattle.instrument_encoding.specs.Encode.{section_start, packed}
use Rattle.instrument_encoding.specs.Parts.{pieces, even_pieces}

pub packed_cong : (d : ℕ) (S R : ℕ → List ℕ) → ((i : ℕ) → i < d → S i ≡ R i) → packed d S ≡ packed d R
unfolding packed section_start
packed_cong d S R h =
    let sizes : (i : ℕ) → i < d → sum_below i (λ k. length (S k)) ≡ sum_below i (λ k. length (R k)) =
    λ i l. sum_cong i (λ k. length (S k)) (λ k. length (R k)) (λ k q. ap length (h k (omega arith))) in
    ap (λ (l : List ℕ). le32 d ++ l)
    (both
    (gather_cong d (λ i. le32 (section_start d S i) ++ le32 (length (S i))) (λ i. le32 (section_start d R i) ++ le32 (length (R i)))
    (λ i l. both (ap (λ (m : ℕ). le32 (4 + 8 * d + m)) (sizes i l)) (ap (λ (x : List ℕ). le32 (length x)) (h i l))))
    (gather_cong d S R h))

module _ (f : List ℕ) (n : ℕ) (c : chained f n ≡ true) where
  first : offset_of f 0 ≡ 4 + 8 * (n + 1)
  unfolding chained
  first = eqb-true (offset_of f 0) (4 + 8 * (n + 1)) (holds _ c 0)

  link : (i : ℕ) → i < n → offset_of f (i + 1) ≡ offset_of f i + length_of f i
  unfolding chained linked
  link i h = eqb-true (offset_of f (i + 1)) (offset_of f i + length_of f i) (all_at (linked f) n (holds _ c 1) i h)

  last : offset_of f n + length_of f n ≡ length f
  unfolding chained
  last = eqb-true (offset_of f n + length_of f n) (length f) (holds _ c 2)

  offset_is : (i : ℕ) → i ≤ n → offset_of f i ≡ 4 + 8 * (n + 1) + sum_below i (length_of f)
  unfolding sum_below
  offset_is zero h = let a = first in omega arith
  offset_is (suc i) h =
      let a = offset_is i (omega arith) in
      let b = ap (offset_of f) (sym (add-one i)) ∙ link i h in
      omega arith

  total : 4 + 8 * (n + 1) + sum_below (n + 1) (length_of f) ≡ length f
  total = let a = offset_is n (le_refl n) in let b = last in let e = sum_more (length_of f) n in omega arith

  -- each section lies in the file, so that it has the length that its pair says
  pub section_length : (i : ℕ) → i < n + 1 → length (section f i) ≡ length_of f i
  unfolding section
  section_length i h =
      let a = offset_is i (omega arith) in
      let b = total in
      let g = sum_within (length_of f) (n + 1) i h in
      let e = length-drop (offset_of f i) f in
      length-take-le (length_of f i) (drop (offset_of f i) f) (omega arith)

  module _ (ok : Bytes f) (e : n + 1 ≡ u32_at f 0) where
    abbrev d : ℕ
    d = n + 1

    room : 4 + 8 * d ≤ length f
    room = let t = total in omega arith

    pair : (i : ℕ) → i < d → le32 (section_start d (section f) i) ++ le32 (length (section f i)) ≡ take 8 (drop (4 + 8 * i) f)
    unfolding section_start offset_of length_of
    pair i h =
        let s : section_start d (section f) i ≡ offset_of f i =
        ap (λ (m : ℕ). 4 + 8 * d + m) (sum_cong i (λ k. length (section f k)) (length_of f) (λ k l. section_length k (omega arith))) ∙ sym (offset_is i (omega arith)) in
        let r = room in
        let q : 8 + 8 * i ≡ 4 + 8 * i + 4 = omega arith in
        part_next f (4 + 8 * i) 4 4
        (ap le32 s ∙ le32_part f ok (4 + 8 * i) (omega arith))
        (ap le32 (section_length i h) ∙ le32_part f ok (8 + 8 * i) (omega arith) ∙ ap (λ (m : ℕ). take 4 (drop m f)) q)

    pub repacked : packed d (section f) ≡ f
    unfolding packed section
    repacked =
        let t = total in
        let word : le32 d ≡ take 4 (drop 0 f) = ap le32 e ∙ le32_part f ok 0 (omega (arith, room)) in
        let table = gather_cong d (λ i. le32 (section_start d (section f) i) ++ le32 (length (section f i))) (λ i. take 8 (drop (4 + 8 * i) f)) pair ∙ even_pieces f 4 8 d in
        let body =
        gather_cong d (section f) (λ i. take (length_of f i) (drop (4 + 8 * d + sum_below i (length_of f)) f)) (λ i l. ap (λ (m : ℕ). take (length_of f i) (drop m f)) (offset_is i (omega arith)))
        ∙ pieces f (4 + 8 * d) (length_of f) d in
        part_next f 0 4 (8 * d + sum_below d (length_of f)) word (part_next f 4 (8 * d) (sum_below d (length_of f)) table body)
        ∙ take_all (4 + (8 * d + sum_below d (length_of f))) f (omega arith)
