-- What owning a piano tells: every premise of the law that it is read back. Assumes nothing.
use mathlib.Core.List.{List, [], ◌∷◌}
use mir.Val.{Val}
use base.Fml.{Fml}
use denote.Array.{each}
use denote.Builtin.{f64}
use denote.Floats.{passes}
use denote.Laws.{Is}
use denote.Shadow.{shadow}
use Rattle.std.specs.Float.Ieee.{Float}
use denote.Struct.Declared as Declared
use Rattle.little_endian.specs.Floats.{Fit}
use Rattle.std.specs.Prelude.{Option, Some, None}
use Rattle.points.specs.declared.Flight.{Flight}
use Rattle.sample.specs.declared.Motion.{Motion}
use Rattle.sample.specs.contracts.Motion as MotionType
use Rattle.score.specs.declared.Piano.{Piano}
use Rattle.score.specs.contracts.Piano as PianoType
use Rattle.session_words.specs.Items.{AllOf}
use Rattle.session_words.specs.PianoLaws.{FitHammer, FitMotion, FitPiano}

-- what owning one element tells holds of each element of an array
pub all_owned : {C : Type 0} (own : C → List Val → Fml) (P : C → Type 0) → ((x : C) (v : Val) → shadow (own x (v ∷ [])) → P x)
    → (xs : List C) (us : List Val) → shadow (each C own xs us) → AllOf P xs
unfolding AllOf
all_owned own P tells [] us g = tt
all_owned own P tells (x ∷ xs) [] g = absurd g
all_owned own P tells (x ∷ xs) (u ∷ us) g = (tells x u g.0, all_owned own P tells xs us g.1)

fit_hammer : (h : Option Flight) (p : Float) (vs : List Val) → Is (Declared.row MotionType.the_type) (record { hammer = h; peak_force = p }) vs → FitHammer h
unfolding FitHammer
fit_hammer None p vs g = tt
fit_hammer (Some f) p vs g = let o = g.1.1.0.1.1.1.1.0.1.1 in (passes _ o.1.0.1, passes _ o.1.1.0.1)

fit_motion : (m : Motion) (vs : List Val) → Is (Declared.row MotionType.the_type) m vs → FitMotion m
fit_motion m vs g = record { hammer = fit_hammer m.hammer m.peak_force vs g; peak = passes _ g.1.1.1.0.1 }

pub fit_piano : (p : Piano) (vs : List Val) → Is (Declared.row PianoType.the_type) p vs → FitPiano p
fit_piano p vs g =
    let o = g.1.1 in
    let held = o.0.1 in
    let hand = o.1.0.1 in
    let damper = o.1.1.0.1 in
    let contacts = o.1.1.1.0.1 in
    record {
      held_long = held.0.1;
      hand_long = hand.0.1;
      damper_long = damper.0.1;
      contacts_long = contacts.0.1;
      dampers = all_owned f64.own_val Fit (λ x v g. passes _ g.1) p.damper_r _ damper.1;
      motion = fit_motion p.motion _ o.1.1.1.1.1.0;
    }
