-- A part within a part: cells lent from a part that itself lies behind other cells; a part put back in two pieces.
use Rattle.std.specs.Prelude.{◌≡◌, refl, List, ◌++◌, ℕ, ◌+◌, ◌≤◌, length, take, drop}
use Rattle.std.proofs.Common.{sym, ap, ◌∙◌, append_assoc, arith, length-drop, drop-drop, take-add, length-take-le}
use Rattle.std.proofs.lemmas.List.{take-append-le, drop-append-le}
use Rattle.std.proofs.Math.Seq.{take-append-add, drop-append-add}
use Rattle.cells.specs.Splice.{part, splice, part_length, splice_same, take_splice, drop_splice}

module _ {ℓ} {A : Type ℓ} where
  -- Behind o cells and before others lie the cells xs: m of these from r on, lent by their place among all,
  module _ (o r m : ℕ) (before xs after : List A) (ho : length before ≡ o) (h : r + m ≤ length xs) where
    from_there : drop (o + r) (before ++ (xs ++ after)) ≡ drop r xs ++ after
    from_there =
        ap (λ (k : ℕ). drop (k + r) (before ++ (xs ++ after))) (sym ho)
        ∙ drop-append-add before (xs ++ after) r ∙ drop-append-le r xs after (omega arith)

    -- are those of xs,
    pub part_middle : part (o + r) m (before ++ (xs ++ after)) ≡ part r m xs
    part_middle = ap (λ (l : List A). take m l) from_there ∙ take-append-le m (drop r xs) after (simp length-drop (omega arith))

    -- and put back they are put back there
    pub splice_middle : (ys : List A) → splice (o + r) m ys (before ++ (xs ++ after)) ≡ before ++ (splice r m ys xs ++ after)
    splice_middle ys =
        let up : take (o + r) (before ++ (xs ++ after)) ≡ before ++ take r xs =
        ap (λ (k : ℕ). take (k + r) (before ++ (xs ++ after))) (sym ho)
        ∙ take-append-add before (xs ++ after) r ∙ ap (λ (l : List A). before ++ l) (take-append-le r xs after (omega arith)) in
        let past : drop m (drop (o + r) (before ++ (xs ++ after))) ≡ drop m (drop r xs) ++ after =
        ap (λ (l : List A). drop m l) from_there ∙ drop-append-le m (drop r xs) after (simp length-drop (omega arith)) in
        rw (up, past) (simp append_assoc)

  -- k cells from s on and the m after them are k + m cells
  pub part_add : (s k m : ℕ) (w : List A) → part s (k + m) w ≡ part s k w ++ part (s + k) m w
  part_add s k m w = take-add k m (drop s w) ∙ ap (λ (l : List A). part s k w ++ take m l) (drop-drop k s w)

  -- put back one after the other they are put back at once
  pub splice_next : (s k m : ℕ) (ys zs w : List A) → length ys ≡ k → s + k ≤ length w
      → splice (s + k) m zs (splice s k ys w) ≡ splice s (k + m) (ys ++ zs) w
  splice_next s k m ys zs w hy h =
      rw (take_splice s k (s + k) ys w refl hy h, drop_splice s k (s + k) ys w refl hy h, drop-drop m k (drop s w)) (simp append_assoc)

  -- a part of a part
  pub part_inside : (o n r m : ℕ) (w : List A) → o + n ≤ length w → r + m ≤ n → part r m (part o n w) ≡ part (o + r) m w
  part_inside o n r m w h hm =
      sym (part_middle o r m (take o w) (part o n w) (drop n (drop o w)) (length-take-le o w (omega arith)) (omega (arith, part_length o n w h)))
      ∙ ap (λ (l : List A). part (o + r) m l) (splice_same o n w)

  -- cells of a part put back are the part put back with them in it
  pub splice_inside : (o n r m : ℕ) (ys w : List A) → o + n ≤ length w → r + m ≤ n → splice (o + r) m ys w ≡ splice o n (splice r m ys (part o n w)) w
  splice_inside o n r m ys w h hm =
      ap (λ (l : List A). splice (o + r) m ys l) (sym (splice_same o n w))
      ∙ splice_middle o r m (take o w) (part o n w) (drop n (drop o w)) (length-take-le o w (omega arith)) (omega (arith, part_length o n w h)) ys
