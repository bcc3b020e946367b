-- A piano's small state as words: 16 held, 16 hand-damped, 16 damper resistances, 16 contact samples, the pedal, then the hammer (1 where
-- it flies, its key's index, y_h, v_h) and peak force. A bool is 1 or 0, a float its bits. Then which words are a piano's. Definitions
-- only: assumes nothing.
use Rattle.std.specs.Prelude.{Option, Some, None, Bool, cond, ◌&&◌, List, [], ◌∷◌, ◌++◌, ℕ, eqb, leb, Float, get_or, drop}
use Rattle.std.specs.Float.{binary64}
use Rattle.std.specs.Float.Ieee.{of_bits, to_bits}
use Rattle.counting.specs.Every.{every}
use Rattle.points.specs.declared.Flight.{Flight}
use Rattle.sample.specs.declared.Motion.{Motion}
use Rattle.score.specs.declared.Piano.{Piano}
use Rattle.session_words.specs.Layout.{peak_offset, hand_damped_offset, dampers_offset, contacts_offset, pedal_offset, motion_offset}
use Rattle.session_words.specs.Items.{joined, items_of}

abbrev pub bit_of : Bool → ℕ
bit_of b = cond b 1 0

abbrev pub flag_word : Bool → List ℕ
flag_word b = bit_of b ∷ []

abbrev pub flag_of : List ℕ → Bool
flag_of w = eqb (get_or w 0 0) 1

abbrev pub float_word : Float → List ℕ
float_word x = to_bits binary64 x ∷ []

abbrev pub float_of : List ℕ → Float
float_of w = of_bits binary64 (get_or w 0 0)

abbrev pub count_word : ℕ → List ℕ
count_word n = n ∷ []

abbrev pub count_of : List ℕ → ℕ
count_of w = get_or w 0 0

unfoldable pub hammer_words : Option Flight → List ℕ
hammer_words None = 0 ∷ 0 ∷ 0 ∷ 0 ∷ []
hammer_words (Some f) = 1 ∷ f.key_index ∷ to_bits binary64 f.y_h ∷ to_bits binary64 f.v_h ∷ []

unfoldable pub hammer_from : List ℕ → Option Flight
hammer_from w =
    cond (eqb (get_or w 0 0) 1)
    (Some (record { key_index = get_or w 1 0; y_h = of_bits binary64 (get_or w 2 0); v_h = of_bits binary64 (get_or w 3 0) }))
    None

unfoldable pub motion_words : Motion → List ℕ
unfolding hammer_words
motion_words m = hammer_words m.hammer ++ (to_bits binary64 m.peak_force ∷ [])

unfoldable pub motion_of : List ℕ → Motion
unfolding hammer_from
motion_of w = record { hammer = hammer_from w; peak_force = of_bits binary64 (get_or w peak_offset 0) }

unfoldable pub piano_words : Piano → List ℕ
piano_words p =
    joined flag_word p.held
    ++ (joined flag_word p.hand_damped ++ (joined float_word p.damper_r ++ (joined count_word p.contact_samples ++ (bit_of p.pedal ∷ motion_words p.motion))))

unfoldable pub piano_of : List ℕ → Piano
piano_of w =
    record {
      held = items_of flag_of 1 16 w;
      hand_damped = items_of flag_of 1 16 (drop hand_damped_offset w);
      damper_r = items_of float_of 1 16 (drop dampers_offset w);
      contact_samples = items_of count_of 1 16 (drop contacts_offset w);
      pedal = flag_of (drop pedal_offset w);
      motion = motion_of (drop motion_offset w);
    }

-- ---- which words are a piano's: those whose flags, of held and hand-damped keys, the pedal and the hammer, are 0 or 1. Any word is a
-- float's, and every NaN's is read as NaN; any word is a count, and any words may follow the flag of a hammer at rest

abbrev pub is_flag : List ℕ → Bool
is_flag w = leb (get_or w 0 0) 1

unfoldable pub is_piano : List ℕ → Bool
is_piano w =
    every (items_of is_flag 1 16 w) && every (items_of is_flag 1 16 (drop hand_damped_offset w)) && is_flag (drop pedal_offset w)
    && is_flag (drop motion_offset w)
