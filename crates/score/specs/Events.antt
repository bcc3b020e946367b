-- Document 01, "One sample": what an event does, as in `apply`. "An unknown key does nothing; a strike replaces the one hammer." Definitions only.
use Rattle.float.specs.Float.{zero as +0}
use Rattle.std.specs.Prelude.{List, [], ◌∷◌, Bool, true, false, cond, not, ◌&&◌, ◌||◌, ℕ, ◌≤◌, ◌<◌, ◌≡◌, eqb, length, get_or, set}
use Rattle.std.specs.Prelude.{Some, unwrap_or, option_map, Float}
use Rattle.cells.specs.Parts.{map_parts}
use Rattle.instrument.specs.declared.Instrument.{Instrument}
use Rattle.instrument.specs.Valid.{key_at}
use Rattle.instrument.specs.KeyIndex.{key_place}
use Rattle.string.specs.declared.StringDesign.{StringDesign}
use Rattle.string.specs.String.{size_of, at_yS, at_memory}
use Rattle.strings.specs.Strings.{cells_of}
use Rattle.score.specs.declared.Event.{Event}
use Rattle.score.specs.declared.Event.TheVariants.{NoteOn, NoteOff, Pedal, HandDamp}
use Rattle.score.specs.declared.Piano.{Piano}

-- "The state": the piano, and its part of the work memory with each string's lines, filters, y_s and memory
pub record State : Type 0 where
  pub piano : Piano
  pub cells : List Float

-- a string of key k forgets y_s and memory
unfoldable pub cleared : ℕ → StringDesign → List Float → List Float
cleared k d p = cond (eqb d.key k) (set (set p (at_yS d) +0) (at_memory d) +0) p

abbrev pub cleared_one : ℕ → ℕ → StringDesign → List Float → List Float
cleared_one k i d p = cleared k d p

abbrev pub cleared_all : ℕ → List StringDesign → List Float → List Float
cleared_all k ds w = map_parts size_of (cleared_one k) 0 ds w

-- the piano with key k struck, released, or damped by hand, and with its pedal moved
unfoldable pub struck_key : ℕ → Float → Piano → Piano
struck_key k velocity p = record {
  held = set p.held k true;
  hand_damped = set p.hand_damped k false;
  damper_r = p.damper_r;
  contact_samples = p.contact_samples;
  pedal = p.pedal;
  motion = record { hammer = Some (record { key_index = k; y_h = +0; v_h = velocity }); peak_force = p.motion.peak_force };
}

unfoldable pub held_to : Bool → ℕ → Piano → Piano
held_to b k p = record {
  held = set p.held k b;
  hand_damped = p.hand_damped;
  damper_r = p.damper_r;
  contact_samples = p.contact_samples;
  pedal = p.pedal;
  motion = p.motion;
}

unfoldable pub hand_damped : ℕ → Piano → Piano
hand_damped k p = record {
  held = p.held;
  hand_damped = set p.hand_damped k true;
  damper_r = p.damper_r;
  contact_samples = p.contact_samples;
  pedal = p.pedal;
  motion = p.motion;
}

unfoldable pub pedal_to : Bool → Piano → Piano
pedal_to b p = record {
  held = p.held;
  hand_damped = p.hand_damped;
  damper_r = p.damper_r;
  contact_samples = p.contact_samples;
  pedal = b;
  motion = p.motion;
}

-- f with the index of the key of number x, nothing where there is none
abbrev pub on_key : Instrument → ℕ → (ℕ → State → State) → State → State
on_key i x f s = unwrap_or (option_map (λ k. f k s) (key_place i x)) s

-- at most 32 strings, with cells for them, and at most 16 keys
pub record Playable (i : Instrument) (designs : List StringDesign) (w : List Float) : Type 0 where
  pub keys : i.key_count ≤ 16
  pub few : length designs ≤ 32
  pub cells : cells_of designs ≤ length w

-- one event, on an instrument of the strings ds
unfoldable pub applied : Instrument → List StringDesign → Event → State → State
applied i ds (NoteOn x v) s = on_key i x (λ k s. record { piano = struck_key k v s.piano; cells = cleared_all k ds s.cells }) s
applied i ds (NoteOff x) s = on_key i x (λ k s. record { piano = held_to false k s.piano; cells = s.cells }) s
applied i ds (Pedal b) s = record { piano = pedal_to b s.piano; cells = s.cells }
applied i ds (HandDamp x) s = on_key i x (λ k s. record { piano = hand_damped k s.piano; cells = s.cells }) s

-- one after the other
unfoldable pub apply_all : Instrument → List StringDesign → List Event → State → State
apply_all i ds [] s = s
apply_all i ds (e ∷ es) s = apply_all i ds es (applied i ds e s)

-- key k's damper is to be down: has_damper && (hand_damped || !(held || pedal))
abbrev pub is_down : Instrument → Piano → ℕ → Bool
is_down i p k = (key_at i.keys k).has_damper && (get_or p.hand_damped k false || not (get_or p.held k false || p.pedal))

-- such a value for each key there is
pub record AllDown (i : Instrument) (p : Piano) (down : List Bool) : Type 0 where
  pub each : (k : ℕ) → k < i.key_count → get_or down k false ≡ is_down i p k
