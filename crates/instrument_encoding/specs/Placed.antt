-- Where each section of a packed file is found. Assumes nothing.
use Rattle.std.specs.Prelude.{◌≡◌, length, drop}
use Rattle.std.proofs.Math.Path.{refl, sym, ap}
use Rattle.std.proofs.Common.{◌∙◌, add-zero, eq-or-lt_of_le, le_of_suc-le-suc}
use mathlib.Core.List.{List, [], ◌++◌, append_assoc, append-nil}
use Rattle.std.proofs.Math.Logic.{⊎_elim}
use Prim.Native.Nat.{ℕ, zero, suc, ◌+◌, ◌*◌, ◌<◌}
use native.Mathlib.Omega.{arith}
use Rattle.std.proofs.Math.ListN.{length-append}
use Rattle.std.proofs.Math.Seq.{drop-append-add, drop-append_seam}
use Rattle.little_endian.specs.Numbers.{u16_at, u32_at, le16, le32}
use Rattle.little_endian.specs.Places.{u32_at_drop}
use Rattle.little_endian.specs.Bytes.{u32_back}
use Rattle.little_endian.specs.Stores.{length_le32}
use Rattle.counting.specs.Below.{sum_below, gather}
use Rattle.counting.specs.Laws.{sum_within, sum_same, length_gather}
use Rattle.instrument_file.specs.File.{offset_of, length_of}
use Rattle.instrument_encoding.specs.Encode.{section_start, packed}

module _ {A : Type 0} where
  -- list k of a gathering with B after it
  pub record Split (G : ℕ → List A) (d k : ℕ) (B : List A) : Type 0 where
    pub after : List A
    pub is : gather d G ++ B ≡ gather k G ++ (G k ++ after)

  pub split : (G : ℕ → List A) (d k : ℕ) (B : List A) → k < d → Split G d k B
  unfolding gather
  split G zero k B h = absurd (omega arith)
  split G (suc d) k B h =
      ⊎_elim
      (λ e. record { after = B; is = append_assoc (gather d G) (G d) B ∙ ap (λ (m : ℕ). gather m G ++ (G m ++ B)) (sym e) })
      (λ l. let s = split G d k (G d ++ B) l in record { after = s.after; is = append_assoc (gather d G) (G d) B ∙ s.is })
      (eq-or-lt_of_le (le_of_suc-le-suc h))

  pub record StandsAt (f : List A) (p : ℕ) (x : List A) : Type 0 where
    pub after : List A
    pub is : drop p f ≡ x ++ after

  pub at_gather : (G : ℕ → List A) (S : ℕ → ℕ) (d k : ℕ) (B : List A) → ((i : ℕ) → length (G i) ≡ S i) → k < d → StandsAt (gather d G ++ B) (sum_below k S) (G k)
  at_gather G S d k B l h =
      let s = split G d k B h in
      record {
        after = s.after;
        is = ap (drop (sum_below k S)) s.is ∙ ap (λ (m : ℕ). drop m (gather k G ++ (G k ++ s.after))) (sym (length_gather G S l k)) ∙ drop-append_seam (gather k G) (G k ++ s.after);
      }

  pub at_later : (xs f : List A) (p q : ℕ) (x : List A) → length xs + p ≡ q → StandsAt f p x → StandsAt (xs ++ f) q x
  at_later xs f p q x e a = record { after = a.after; is = ap (λ (m : ℕ). drop m (xs ++ f)) (sym e) ∙ drop-append-add xs f p ∙ a.is }

first_word : (a b : ℕ) (r : List ℕ) → a < 4294967296 → u32_at ((le32 a ++ le32 b) ++ r) 0 ≡ a
unfolding u32_at u16_at le32 le16
first_word a b r h = u32_back a [] h

second_word : (a b : ℕ) (r : List ℕ) → b < 4294967296 → u32_at ((le32 a ++ le32 b) ++ r) 4 ≡ b
unfolding u32_at u16_at le32 le16
second_word a b r h = u32_back b [] h

module _ (d : ℕ) (S : ℕ → List ℕ) where
  abbrev L : ℕ → ℕ
  L k = length (S k)

  abbrev P : ℕ → List ℕ
  P i = le32 (section_start d S i) ++ le32 (length (S i))

  pub pair_length : (i : ℕ) → length (P i) ≡ 8
  unfolding le32 le16
  pair_length i = refl

  table_length : length (gather d P) ≡ 8 * d
  table_length = length_gather P (λ k. 8) pair_length d ∙ sum_same d 8

  pub packed_length : length (packed d S) ≡ 4 + 8 * d + sum_below d L
  unfolding packed
  packed_length =
      let a = length-append (le32 d) (gather d P ++ gather d S) in
      let b = length-append (gather d P) (gather d S) in
      let c = length_le32 d in
      let e = table_length in
      let g = length_gather S L (λ i. refl) d in
      omega arith

  pub section_at : (k : ℕ) → k < d → StandsAt (packed d S) (section_start d S k) (S k)
  unfolding packed section_start
  section_at k h =
      let inner = at_gather S L d k [] (λ i. refl) h in
      let bare : StandsAt (gather d S) (sum_below k L) (S k) = record { after = inner.after; is = ap (drop (sum_below k L)) (sym (append-nil (gather d S))) ∙ inner.is } in
      at_later (le32 d) (gather d P ++ gather d S) (8 * d + sum_below k L) (4 + 8 * d + sum_below k L) (S k) (let c = length_le32 d in omega arith)
      (at_later (gather d P) (gather d S) (sum_below k L) (8 * d + sum_below k L) (S k) (ap (λ (m : ℕ). m + sum_below k L) table_length) bare)

  pub pair_at : (k : ℕ) → k < d → StandsAt (packed d S) (4 + 8 * k) (P k)
  unfolding packed
  pair_at k h =
      let inner = at_gather P (λ i. 8) d k (gather d S) pair_length h in
      at_later (le32 d) (gather d P ++ gather d S) (sum_below k (λ i. 8)) (4 + 8 * k) (P k) (let c = length_le32 d in let e = sum_same k 8 in omega arith) inner

  module _ (small : 4 + 8 * d + sum_below d L < 4294967296) where
    pub count_back : u32_at (packed d S) 0 ≡ d
    unfolding packed
    count_back = u32_back d (gather d P ++ gather d S) (omega arith)

    start_small : (k : ℕ) → k < d → section_start d S k + length (S k) < 4294967296
    unfolding section_start
    start_small k h = let w = sum_within L d k h in omega arith

    pub off_back : (k : ℕ) → k < d → offset_of (packed d S) k ≡ section_start d S k
    unfolding offset_of
    off_back k h =
        let p = pair_at k h in
        let q = start_small k h in
        ap (u32_at (packed d S)) (sym (add-zero (4 + 8 * k))) ∙ sym (u32_at_drop (4 + 8 * k) (packed d S) 0) ∙ ap (λ (l : List ℕ). u32_at l 0) p.is
        ∙ first_word (section_start d S k) (length (S k)) p.after (omega arith)

    pub len_back : (k : ℕ) → k < d → length_of (packed d S) k ≡ length (S k)
    unfolding length_of
    len_back k h =
        let p = pair_at k h in
        let q = start_small k h in
        let e : 8 + 8 * k ≡ 4 + 8 * k + 4 = omega arith in
        ap (u32_at (packed d S)) e ∙ sym (u32_at_drop (4 + 8 * k) (packed d S) 4) ∙ ap (λ (l : List ℕ). u32_at l 4) p.is
        ∙ second_word (section_start d S k) (length (S k)) p.after (omega arith)
