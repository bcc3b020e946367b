-- Every piano is read back from its words, and they are told to be one's. `FitPiano` says what every value of the record's type has and a
-- definition alone cannot see: its floats are f64s, its arrays as long as declared. Assumes nothing.
use Rattle.std.specs.Prelude.{Option, Some, None, ◌≡◌, refl, Bool, false, cond, ℕ, ◌+◌, eqb, Float, length, get_or, drop}
use Rattle.std.proofs.Common.{sym, ◌∙◌, drop_at, drop-drop}
use Rattle.std.proofs.Math.Path.{ap}
use Rattle.std.proofs.Math.Bool.{true}
use mathlib.Core.List.{List, [], ◌∷◌, ◌++◌, append_assoc}
use native.Mathlib.Omega.{arith}
use Rattle.std.specs.Float.Ieee.{binary64, of_bits, to_bits}
use Rattle.std.specs.Float.Ieee.Bits.{of_bits-to_bits, of_bits-fits}
use Rattle.std.proofs.Math.ListN.{length-append}
use Rattle.counting.specs.Every.{every}
use Rattle.little_endian.specs.Floats.{Fit}
use Rattle.points.specs.declared.Flight.{Flight}
use Rattle.sample.specs.declared.Motion.{Motion}
use Rattle.score.specs.declared.Piano.{Piano}
use Rattle.session_words.specs.Layout.{hammer_size, motion_size, peak_offset, hand_damped_offset, dampers_offset, contacts_offset, pedal_offset, motion_offset, piano_size}
use Rattle.session_words.specs.Items.{joined, items_of, AllOf, joined_length, items_length, items_back, items_pass, all_items}
use Rattle.session_words.specs.Piano.{bit_of, flag_word, flag_of, float_word, float_of, count_word, count_of, hammer_words, hammer_from, motion_words, motion_of, piano_words, piano_of, is_flag, is_piano}

-- nothing is asked
abbrev pub Any : {A : Type 0} → A → Type 0
Any x = Unit {0}

unfoldable pub FitHammer : Option Flight → Type 0
FitHammer None = Unit {0}
FitHammer (Some f) = Fit f.y_h × Fit f.v_h

pub record FitMotion (m : Motion) : Type 0 where
  pub hammer : FitHammer m.hammer
  pub peak : Fit m.peak_force

pub record FitPiano (p : Piano) : Type 0 where
  pub held_long : length p.held ≡ 16
  pub hand_long : length p.hand_damped ≡ 16
  pub damper_long : length p.damper_r ≡ 16
  pub contacts_long : length p.contact_samples ≡ 16
  pub dampers : AllOf Fit p.damper_r
  pub motion : FitMotion p.motion

pub all_any : {A : Type 0} (xs : List A) → AllOf Any xs
unfolding AllOf
all_any [] = tt
all_any (x ∷ xs) = (tt, all_any xs)

-- ---- the pieces

pub flag_back : (b : Bool) → Any b → (r : List ℕ) → flag_of (flag_word b ++ r) ≡ b
flag_back true h r = refl
flag_back false h r = refl

flag_passes : (b : Bool) → Any b → (r : List ℕ) → is_flag (flag_word b ++ r) ≡ true
flag_passes true h r = refl
flag_passes false h r = refl

pub float_back : (x : Float) → Fit x → (r : List ℕ) → float_of (float_word x ++ r) ≡ x
float_back x h r = of_bits-to_bits binary64 x h

pub count_back : (n : ℕ) → Any n → (r : List ℕ) → count_of (count_word n ++ r) ≡ n
count_back n h r = refl

pub flags_length : (xs : List Bool) → length (joined flag_word xs) ≡ length xs
flags_length xs = joined_length Any flag_word 1 (λ x h. refl) xs (all_any xs) ∙ omega arith

pub floats_length : (xs : List Float) → length (joined float_word xs) ≡ length xs
floats_length xs = joined_length Any float_word 1 (λ x h. refl) xs (all_any xs) ∙ omega arith

pub counts_length : (xs : List ℕ) → length (joined count_word xs) ≡ length xs
counts_length xs = joined_length Any count_word 1 (λ x h. refl) xs (all_any xs) ∙ omega arith

pub hammer_length : (h : Option Flight) → length (hammer_words h) ≡ hammer_size
unfolding hammer_words
hammer_length None = refl
hammer_length (Some f) = refl

motion_length : (m : Motion) → length (motion_words m) ≡ motion_size
unfolding motion_words
motion_length m = length-append (hammer_words m.hammer) _ ∙ ap (λ (n : ℕ). n + 1) (hammer_length m.hammer)

module _ (p : Float) (r : List ℕ) (fp : Fit p) where
  motion_from : (h : Option Flight) → FitHammer h → motion_of ((hammer_words h ++ (to_bits binary64 p ∷ [])) ++ r) ≡ record { hammer = h; peak_force = p }
  unfolding motion_of hammer_from hammer_words FitHammer
  motion_from None f = rw (of_bits-to_bits binary64 p fp)
  motion_from (Some h) f = rw (of_bits-to_bits binary64 p fp, of_bits-to_bits binary64 h.y_h f.0, of_bits-to_bits binary64 h.v_h f.1)

motion_back : (m : Motion) → FitMotion m → (r : List ℕ) → motion_of (motion_words m ++ r) ≡ m
unfolding motion_words
motion_back m f r = motion_from m.peak_force r f.peak m.hammer f.hammer

motion_passes : (m : Motion) (r : List ℕ) → is_flag (motion_words m ++ r) ≡ true
unfolding motion_words hammer_words
motion_passes m r = go m.hammer
  where
    go : (h : Option Flight) → is_flag ((hammer_words h ++ (to_bits binary64 m.peak_force ∷ [])) ++ r) ≡ true
    go None = refl
    go (Some f) = refl

-- ---- the piano

module _ (p : Piano) (f : FitPiano p) where
  pub piano_length : length (piano_words p) ≡ piano_size
  unfolding piano_words
  piano_length =
      let x1 = joined flag_word p.held in
      let x2 = joined flag_word p.hand_damped in
      let x3 = joined float_word p.damper_r in
      let x4 = joined count_word p.contact_samples in
      let x5 = bit_of p.pedal ∷ motion_words p.motion in
      let n1 = flags_length p.held in
      let n2 = flags_length p.hand_damped in
      let n3 = floats_length p.damper_r in
      let n4 = counts_length p.contact_samples in
      let n5 = motion_length p.motion in
      let m1 = f.held_long in
      let m2 = f.hand_long in
      let m3 = f.damper_long in
      let m4 = f.contacts_long in
      let l4 = length-append x4 x5 in
      let l3 = length-append x3 (x4 ++ x5) in
      let l2 = length-append x2 (x3 ++ (x4 ++ x5)) in
      let l1 = length-append x1 (x2 ++ (x3 ++ (x4 ++ x5))) in
      omega arith

-- where each part of a piano's words stands, whatever follows them
module _ (p : Piano) (f : FitPiano p) (r : List ℕ) where
  abbrev whole : List ℕ
  whole = piano_words p ++ r

  abbrev x1 : List ℕ
  x1 = joined flag_word p.held

  abbrev x2 : List ℕ
  x2 = joined flag_word p.hand_damped

  abbrev x3 : List ℕ
  x3 = joined float_word p.damper_r

  abbrev x4 : List ℕ
  x4 = joined count_word p.contact_samples

  abbrev x5 : List ℕ
  x5 = bit_of p.pedal ∷ motion_words p.motion

  abbrev t4 : List ℕ
  t4 = x5 ++ r

  abbrev t3 : List ℕ
  t3 = x4 ++ t4

  abbrev t2 : List ℕ
  t2 = x3 ++ t3

  abbrev t1 : List ℕ
  t1 = x2 ++ t2

  from_held : whole ≡ x1 ++ t1
  unfolding piano_words
  from_held =
      append_assoc x1 (x2 ++ (x3 ++ (x4 ++ x5))) r
      ∙ ap (λ (l : List ℕ). x1 ++ l)
      (append_assoc x2 (x3 ++ (x4 ++ x5)) r ∙ ap (λ (l : List ℕ). x2 ++ l) (append_assoc x3 (x4 ++ x5) r ∙ ap (λ (l : List ℕ). x3 ++ l) (append_assoc x4 x5 r)))

  from_hand_damped : drop hand_damped_offset whole ≡ t1
  from_hand_damped = ap (drop 16) from_held ∙ drop_at x1 t1 16 (flags_length p.held ∙ f.held_long)

  from_dampers : drop dampers_offset whole ≡ t2
  from_dampers = sym (drop-drop 16 hand_damped_offset whole) ∙ ap (drop 16) from_hand_damped ∙ drop_at x2 t2 16 (flags_length p.hand_damped ∙ f.hand_long)

  from_contacts : drop contacts_offset whole ≡ t3
  from_contacts = sym (drop-drop 16 dampers_offset whole) ∙ ap (drop 16) from_dampers ∙ drop_at x3 t3 16 (floats_length p.damper_r ∙ f.damper_long)

  from_pedal : drop pedal_offset whole ≡ t4
  from_pedal = sym (drop-drop 16 contacts_offset whole) ∙ ap (drop 16) from_contacts ∙ drop_at x4 t4 16 (counts_length p.contact_samples ∙ f.contacts_long)

  from_motion : drop motion_offset whole ≡ motion_words p.motion ++ r
  from_motion = sym (drop-drop 1 pedal_offset whole) ∙ ap (drop 1) from_pedal

  -- THE LAW: a piano is read back from its words
  pub piano_back : piano_of whole ≡ p
  unfolding piano_of
  piano_back =
      let h1 : items_of flag_of 1 16 whole ≡ p.held =
      ap (items_of flag_of 1 16) from_held ∙ ap (λ (n : ℕ). items_of flag_of 1 n (x1 ++ t1)) (sym f.held_long)
      ∙ items_back Any flag_word 1 (λ x h. refl) flag_of flag_back p.held (all_any p.held) t1 in
      let h2 : items_of flag_of 1 16 (drop hand_damped_offset whole) ≡ p.hand_damped =
      ap (items_of flag_of 1 16) from_hand_damped ∙ ap (λ (n : ℕ). items_of flag_of 1 n (x2 ++ t2)) (sym f.hand_long)
      ∙ items_back Any flag_word 1 (λ x h. refl) flag_of flag_back p.hand_damped (all_any p.hand_damped) t2 in
      let h3 : items_of float_of 1 16 (drop dampers_offset whole) ≡ p.damper_r =
      ap (items_of float_of 1 16) from_dampers ∙ ap (λ (n : ℕ). items_of float_of 1 n (x3 ++ t3)) (sym f.damper_long)
      ∙ items_back Fit float_word 1 (λ x h. refl) float_of float_back p.damper_r f.dampers t3 in
      let h4 : items_of count_of 1 16 (drop contacts_offset whole) ≡ p.contact_samples =
      ap (items_of count_of 1 16) from_contacts ∙ ap (λ (n : ℕ). items_of count_of 1 n (x4 ++ t4)) (sym f.contacts_long)
      ∙ items_back Any count_word 1 (λ x h. refl) count_of count_back p.contact_samples (all_any p.contact_samples) t4 in
      let h5 : flag_of (drop pedal_offset whole) ≡ p.pedal = ap flag_of from_pedal ∙ flag_back p.pedal tt (motion_words p.motion ++ r) in
      let h6 : motion_of (drop motion_offset whole) ≡ p.motion = ap motion_of from_motion ∙ motion_back p.motion f.motion r in
      rw (h1, h2, h3, h4, h5, h6)

  -- a piano's words are told to be one's
  pub piano_passes : is_piano whole ≡ true
  unfolding is_piano
  piano_passes =
      let held : every (items_of is_flag 1 16 whole) ≡ true =
      ap (λ (l : List ℕ). every (items_of is_flag 1 16 l)) from_held
      ∙ items_pass Any flag_word 1 (λ x h. refl) is_flag flag_passes 16 p.held (all_any p.held) (omega (arith, f.held_long)) t1 in
      let damped : every (items_of is_flag 1 16 (drop hand_damped_offset whole)) ≡ true =
      ap (λ (l : List ℕ). every (items_of is_flag 1 16 l)) from_hand_damped
      ∙ items_pass Any flag_word 1 (λ x h. refl) is_flag flag_passes 16 p.hand_damped (all_any p.hand_damped) (omega (arith, f.hand_long)) t2 in
      let pedal : is_flag (drop pedal_offset whole) ≡ true = ap is_flag from_pedal ∙ flag_passes p.pedal tt (motion_words p.motion ++ r) in
      let hammer : is_flag (drop motion_offset whole) ≡ true = ap is_flag from_motion ∙ motion_passes p.motion r in
      rw (held, damped, pedal, hammer)

-- ---- whatever the words are, what is read from them is a value of the type

fit_hammer_of : (t : Bool) (k a b : ℕ) → FitHammer (cond t (Some (record { key_index = k; y_h = of_bits binary64 a; v_h = of_bits binary64 b })) None)
unfolding FitHammer
fit_hammer_of true k a b = (of_bits-fits binary64 a, of_bits-fits binary64 b)
fit_hammer_of false k a b = tt

pub fit_piano_of : (w : List ℕ) → FitPiano (piano_of w)
unfolding piano_of motion_of hammer_from
fit_piano_of w =
    let m = drop motion_offset w in
    record {
      held_long = items_length flag_of 1 16 w;
      hand_long = items_length flag_of 1 16 (drop hand_damped_offset w);
      damper_long = items_length float_of 1 16 (drop dampers_offset w);
      contacts_long = items_length count_of 1 16 (drop contacts_offset w);
      dampers = all_items Fit float_of (λ v. of_bits-fits binary64 (get_or v 0 0)) 1 16 (drop dampers_offset w);
      motion = record {
        hammer = fit_hammer_of (eqb (get_or m 0 0) 1) (get_or m 1 0) (get_or m 2 0) (get_or m 3 0);
        peak = of_bits-fits binary64 (get_or m peak_offset 0);
      };
    }
