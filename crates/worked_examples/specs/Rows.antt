-- Document 01, "Bench rows": the rows marked § in one table, in its order, and a row for W5's quarters, with one proof over the definitions; the session's rows hold for every
-- instrument. Assumes nothing.
use Rattle.std.specs.Prelude.{ℕ, ◌-◌, ◌^◌, ◌≡◌, refl, List, [], ◌∷◌, map, false, pos, negsuc, Float}
use Rattle.std.specs.Float.{fin, binary64}
use Rattle.std.specs.Float.Ieee.{of_bits, of_int, to_bits, add, sub, mul, neg}
use Rattle.float.specs.Float.{zero, half, one}
use Rattle.root.specs.Root.{root_of}
use Rattle.power.specs.Power.{power_of}
use Rattle.filter.specs.Filter.{stage_out, stage_cells, allpass_of, loss_of}
use Rattle.hammer.specs.declared.Hammer.{Hammer}
use Rattle.hammer.specs.Contact.{force_of}
use Rattle.cuts.specs.declared.Cuts.{Cuts}
use Rattle.cuts.specs.Cuts.{cuts_of}
use Rattle.instrument.specs.declared.Instrument.{Instrument}
use Rattle.positions.specs.Positions.{count, up_to, greatest}
use Rattle.score_edits.specs.Edits.{placed, may_precede, sound_velocity}
use Rattle.machine.specs.Machine.{Call, does_to}
use Rattle.worked_examples.specs.Replies.{answers, inserted_at, play, go, insert_at, cued, begin, then, then_go, then_far, done}

-- what the definitions give, and what the row says: lists of whole numbers, one for each reply of a session
pub record Row : Type 0 where
  pub computed : List (List ℕ)
  pub stated : List (List ℕ)

-- a row of values
abbrev values : List ℕ → List ℕ → Row
values computed stated = record { computed = computed ∷ []; stated = stated ∷ [] }

-- each row's two sides are the same
infixr 4 ◌and◌
pub data Hold : List Row → Type 0 where
  no_more : Hold []
  ◌and◌ : {r : Row} {rs : List Row} → r.computed ≡ r.stated → Hold rs → Hold (r ∷ rs)

-- ---- how the rows write their values

-- floats by their bit patterns, so that no two values look alike
unfoldable bits : List Float → List ℕ
unfolding to_bits
bits xs = map (to_bits binary64) xs

unfoldable whole : ℕ → Float
unfolding of_int
whole n = of_int binary64 (pos n)

-- n / 2 ^ k, for a k of 1 or more
unfoldable over2^ : ℕ → ℕ → Float
over2^ n k = fin false n (negsuc (k - 1))

-- a filter on one input after the other: `out` what leaves it, `next` what it then holds
unfoldable ran : {S : Type 0} → (S → Float → Float) → (S → Float → S) → S → List Float → List Float
ran out next s [] = []
ran out next s (x ∷ xs) = out s x ∷ ran out next (next s x) xs

-- "Force, k = 1, h = 2"
unfoldable hammer : Hammer
hammer = record { stiffness = one; exponent = 2; eps = zero; mass = one; tau = zero }

unfoldable lengths : Cuts → List ℕ
lengths c = c.na ∷ (c.nb ∷ (c.nc ∷ []))

-- ---- the table

unfoldable pub rows : Instrument → List Row
unfolding power_of root_of stage_out stage_cells allpass_of loss_of force_of cuts_of bits whole over2^ ran hammer lengths of_bits add sub mul neg
rows i =
    -- "Powers of 4 for h = 2, 3, 4, 5: 4, 8, 16, 32."
    values (bits (map (power_of (whole 4)) (2 ∷ 3 ∷ 4 ∷ 5 ∷ []))) (bits (map whole (4 ∷ 8 ∷ 16 ∷ 32 ∷ [])))
    -- "0.25, h = 3: 0.125."
    ∷ values (bits (power_of (over2^ 1 2) 3 ∷ [])) (bits (over2^ 1 3 ∷ []))
    -- document 02, W5: 16 to the power of 4, 5, 6, 7, 8 and 9 quarters
    ∷ values (bits (map (power_of (whole 16)) (260 ∷ 261 ∷ 262 ∷ 263 ∷ 264 ∷ 265 ∷ []))) (bits (map whole (16 ∷ 32 ∷ 64 ∷ 128 ∷ 256 ∷ 512 ∷ [])))
    -- "root(2) has bits 3FF6A09E667F3BCD hexadecimal."
    ∷ values (bits (root_of (whole 2) ∷ [])) (0x3FF6_A09E_667F_3BCD ∷ [])
    -- "Allpass a = 0.5 on 1, 0, 0: 0.5, 0.75, −0.375."
    ∷ values (bits (ran (stage_out half) (stage_cells half) (zero ∷ zero ∷ []) (one ∷ zero ∷ zero ∷ []))) (bits (half ∷ over2^ 3 2 ∷ neg (over2^ 3 3) ∷ []))
    -- "Loss g = 1, c = 0.5 on 1, 0: 0.5, 0.25."
    ∷ values (bits (ran (loss_of one half) (loss_of one half) zero (one ∷ zero ∷ []))) (bits (half ∷ over2^ 1 2 ∷ []))
    -- "Force, k = 1, h = 2, eps_r = 0, c0 = c1 = 1: 0.5 − 2^-51; with eps_r = 1: 0; with c0 = 0: 0."
    ∷ values (bits (force_of hammer zero one one ∷ force_of hammer one one one ∷ force_of hammer zero zero one ∷ [])) (bits (over2^ (2 ^ 50 - 1) 51 ∷ zero ∷ zero ∷ []))
    -- "Cuts for φ = 0: n = 10, ratios 0.25, 0.75: 3, 5, 2; n = 4, ratios 1, 0: 2, 1, 1."
    ∷ values (lengths (cuts_of 10 zero (over2^ 1 2) (over2^ 3 2))) (3 ∷ 5 ∷ 2 ∷ [])
    ∷ values (lengths (cuts_of 4 zero one zero)) (2 ∷ 1 ∷ 1 ∷ [])
    -- "play 100, cue, play 50, insert at 120: t = 100, 0 dropped; go 130: 30; insert at 60: t = 0, 1 dropped."
    ∷ record {
      computed = answers i (play i 100 ∷ Call.cue ∷ play i 50 ∷ insert_at i 120 ∷ go i 130 ∷ insert_at i 60 ∷ []);
      stated = [] ∷ [] ∷ [] ∷ (100 ∷ 0 ∷ []) ∷ (30 ∷ []) ∷ (0 ∷ 1 ∷ []) ∷ [];
    }
    -- "Insert at 100 instead of 120: t = 100."
    ∷ record { computed = answers i (play i 100 ∷ Call.cue ∷ play i 50 ∷ insert_at i 100 ∷ []); stated = [] ∷ [] ∷ [] ∷ (100 ∷ 0 ∷ []) ∷ [] }
    -- "With t = 150, insert at 150: t = 150."
    ∷ record { computed = answers i (play i 100 ∷ Call.cue ∷ play i 50 ∷ insert_at i 150 ∷ []); stated = [] ∷ [] ∷ [] ∷ (150 ∷ 0 ∷ []) ∷ [] }
    -- document 02, W8: an insert at the end is accepted, at the next position 11; a go past the end of before, from here, is 16
    ∷ record {
      computed = answers i (play i 100 ∷ Call.cue ∷ play i 50 ∷ insert_at i 9007199254740992 ∷ insert_at i 9007199254740993 ∷ go i 2000000001 ∷ []);
      stated = [] ∷ [] ∷ [] ∷ (150 ∷ 0 ∷ []) ∷ (11 ∷ []) ∷ (16 ∷ []) ∷ [];
    }
    ∷ []

-- ---- the proof: every row's two sides are the same

pub rows_hold : (i : Instrument) → Hold (rows i)
unfolding rows does_to count up_to greatest placed may_precede sound_velocity
rows_hold i =
    refl and refl and refl and refl and refl and refl and refl and refl and refl
    and begin i _ _
    (then i (cued i) (insert_at i 120) _ _
    (then_go i (record { score = inserted_at 120 ∷ []; t = 100; cues = 100 ∷ [] }) 130 _ _ refl refl
    (then i (record { score = inserted_at 120 ∷ []; t = 130; cues = 100 ∷ [] }) (insert_at i 60) _ _ (done i _))))
    and begin i _ _ (then i (cued i) (insert_at i 100) _ _ (done i _))
    and begin i _ _ (then i (cued i) (insert_at i 150) _ _ (done i _))
    and begin i _ _
    (then i (cued i) (insert_at i 9007199254740992) _ _
    (then i (record { score = inserted_at 9007199254740992 ∷ []; t = 150; cues = 100 ∷ [] }) (insert_at i 9007199254740993) _ _ (then_far i _ 2000000001 _ _ refl refl (done i _))))
    and no_more
