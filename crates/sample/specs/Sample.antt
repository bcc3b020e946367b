-- Document 01, "One sample": "`render` gives the order: events whose position is not above t; dampers; all reads and loop filters; hammer and damper
-- points; hammer motion; nut; bridge." All but the events, which crate `score` defines. Definitions only.
use Rattle.std.specs.Prelude.{◌≡◌, List, Bool, cond, ◌&&◌, ℕ, ◌+◌, ◌≤◌, ◌<◌, ◌^◌, length, get_or, Option, None}
use Rattle.std.specs.Prelude.{Some, is_some, option_map, option_to_list, Float}
use Rattle.std.specs.Float.{binary64}
use Rattle.std.specs.Float.Ieee.{add, sub, mul, div, lt}
use Rattle.float.specs.Float.{max_of, zero as +0}
use Rattle.counting.specs.Sums.{raised}
use Rattle.string.specs.declared.StringDesign.{StringDesign}
use Rattle.points.specs.declared.Constants.{Constants}
use Rattle.points.specs.declared.Flight.{Flight}
use Rattle.points.specs.declared.ForceSum.{ForceSum}
use Rattle.strings.specs.Strings.{AllFit, cells_of, reads_all, v_ins, filtered_all, points_all, point_force, no_force, nuts_all, bridge_all, bridge_force}
use Rattle.keys.specs.declared.KeyConstants.{KeyConstants}
use Rattle.keys.specs.Keys.{dampers, bridge_speeds}
use Rattle.sample.specs.declared.Motion.{Motion}
use Rattle.sample.specs.declared.Tables.{Tables}
use Rattle.sample.specs.declared.Sampled.{Sampled}

-- what a sample is computed with: the instrument's constants, its keys and its strings
pub record Model : Type 0 where
  pub constants : Constants
  pub keys : List KeyConstants
  pub strings : List StringDesign

abbrev pub model_at : Tables → Model
model_at tables = record { constants = tables.constants; keys = tables.keys.now; strings = tables.designs.now }

-- the strings can sound, and the part w and the scratch v have cells for them
pub record Ready (m : Model) (w v : List Float) : Type 0 where
  pub fit : AllFit m.strings
  pub keys : length m.keys ≤ 16
  pub cells : cells_of m.strings ≤ length w
  pub scratch : length m.strings ≤ length v

-- the bridge's part of a sample: the cells w come to w', and r is the force on the bridge
pub record Bridged (m : Model) (t : ℕ) (v w w' : List Float) (r : Float) : Type 0 where
  pub cells : w' ≡ bridge_all (bridge_speeds m.constants.yz m.keys m.strings v) v m.strings t w
  pub out : r ≡ bridge_force m.constants.z (bridge_speeds m.constants.yz m.keys m.strings v) v m.strings w +0

-- a hammer that flies back with no string in contact is gone
abbrev pub hammer_after : Bool → Flight → Option Flight
hammer_after any h = cond any (Some h) (cond (lt h.v_h +0) None (Some h))

-- hammer motion: the force slows the hammer; peak_force changes in contact alone
unfoldable pub moved : Constants → Option Flight → Float → ForceSum → Motion
moved c None peak f = record { hammer = None; peak_force = peak }
moved c (Some h) peak f =
    let v = sub binary64 h.v_h (div binary64 (mul binary64 c.dt f.force_sum) c.hammer.mass) in
    let y = add binary64 h.y_h (mul binary64 c.dt v) in
    record {
      hammer = hammer_after f.any_contact (record { key_index = h.key_index; y_h = y; v_h = v });
      peak_force = cond f.any_contact (max_of peak f.force_sum) peak;
    }

-- Document 02, W2: "A sample in contact counts for the struck key", the one of the hammer that flies
unfoldable pub counted_for : Option Flight → Bool → List ℕ → List ℕ
counted_for None contact counts = counts
counted_for (Some h) contact counts = cond contact (raised counts h.key_index) counts

-- there is a count for that key, and one more fits 64 bits
unfoldable pub CanCount : List ℕ → Option Flight → Type 0
CanCount counts None = Unit {0}
CanCount counts (Some h) = (h.key_index < 16) × (get_or counts h.key_index 0 + 1 < 2 ^ 64)

-- what a sample leaves, its output, the force pushed, one where a hammer flies and else none, and whether a hammer flew in contact
pub record Step : Type 0 where
  pub damper_r : List Float
  pub motion : Motion
  pub cells : List Float
  pub out : Float
  pub force : List Float
  pub contact : Bool

-- that of the code's answer, with the dampers and the cells lent to it
abbrev pub step_of : Sampled → List Float → List Float → Step
step_of r R w = record { damper_r = R; motion = r.motion; cells = w; out = r.out; force = option_to_list r.force; contact = r.contact }

-- Sample t after its events, of the dampers' resistances R, the hammer and the cells; `down` says which dampers are to be down.
unfoldable pub sampled : Model → (ℕ → Bool) → ℕ → List Float → Motion → List Float → Step
sampled m down t R motion w =
    let c = m.constants in
    let ds = m.strings in
    let hammer = motion.hammer in
    let R' = dampers m.keys down R in
    let reads = reads_all ds t w in
    let v = v_ins ds t w in
    let filtered = filtered_all ds t w in
    let struck = points_all c hammer R' ds t reads filtered in
    let force = point_force c hammer ds reads filtered no_force in
    let after = moved c hammer motion.peak_force force in
    let nuts = nuts_all ds t reads struck in
    let speeds = bridge_speeds c.yz m.keys ds v in
    record {
      damper_r = R';
      motion = after;
      cells = bridge_all speeds v ds t nuts;
      out = bridge_force c.z speeds v ds nuts +0;
      force = option_to_list (option_map (λ _. force.force_sum) hammer);
      contact = is_some hammer && force.any_contact;
    }
