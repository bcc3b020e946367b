-- Document 01, "One sample": "hammer and damper points", as in `render`: each string's contact force, memory, y_s and four writes. Definitions only.
use Rattle.std.specs.Prelude.{List, Option, Some, None, true, cond, ℕ, eqb, get_or, set, Float}
use Rattle.std.specs.Float.{nan, binary64}
use Rattle.std.specs.Float.Ieee.{add, sub, mul, div, neg, lt}
use Rattle.float.specs.Float.{min_of, positive_part, one, zero as +0}
use Rattle.power.specs.Power.{power_of}
use Rattle.hammer.specs.Contact.{force_of}
use Rattle.string.specs.declared.StringDesign.{StringDesign}
use Rattle.string.specs.declared.Reads.{Reads}
use Rattle.string.specs.String.{at_yS, at_memory, reads_of, point_writes, nut_write}
use Rattle.points.specs.declared.Constants.{Constants}
use Rattle.points.specs.declared.Flight.{Flight}
use Rattle.points.specs.declared.Contact.{Contact}
use Rattle.points.specs.declared.ForceSum.{ForceSum}

-- the felt's memory of x^p: memory + min(dt / tau, 1) (x^p - memory) where tau > 0
unfoldable pub remembered : Constants → Float → Float → Float
remembered c memory xp =
    cond (lt +0 c.hammer.tau)
    (add binary64 memory (mul binary64 (min_of (div binary64 c.dt c.hammer.tau) one) (sub binary64 xp memory)))
    memory

-- the compression that no force would leave, with the hammer at y_h, of speed v_h; and what a force of 1 takes off it, the same for all strings
abbrev pub c0_of : Constants → Float → Float → Float → Reads → Float
c0_of c yh vh ys r = add binary64 (sub binary64 yh ys) (mul binary64 c.dt (sub binary64 (sub binary64 vh r.a) r.b))

abbrev pub c1_of : Constants → Float
c1_of c = div binary64 c.dt c.two_z

-- a contact with the hammer
unfoldable pub touched : Constants → Float → Float → Float → Float → Reads → Contact
touched c yh vh ys memory r =
    let c0 = c0_of c yh vh ys r in
    let c1 = c1_of c in
    let f = force_of c.hammer (mul binary64 c.hammer.eps memory) c0 c1 in
    let xp = power_of (positive_part (sub binary64 c0 (mul binary64 c1 f))) c.hammer.exponent in
    record { force = f; memory = remembered c memory xp }

-- the hammer touches the strings of its own key
unfoldable pub contact_of : Constants → Option Flight → ℕ → Float → Float → Reads → Contact
contact_of c None key ys memory r = record { force = +0; memory = memory }
contact_of c (Some h) key ys memory r =
    cond (eqb h.key_index key) (touched c h.y_h h.v_h ys memory r) (record { force = +0; memory = memory })

abbrev pub contact_at : Constants → Option Flight → StringDesign → Reads → List Float → Contact
contact_at c h d r p = contact_of c h d.key (get_or p (at_yS d) nan) (get_or p (at_memory d) nan) r

-- what the damper injects: v_d = (c + d) / (1 + R / 2z), then - R v_d / 2z
abbrev pub damped_by : Constants → Float → Reads → Float
damped_by c R r =
    div binary64 (mul binary64 (neg R) (div binary64 (add binary64 r.c r.d) (add binary64 one (div binary64 R c.two_z)))) c.two_z

-- one string's cells after both points, of the values read and a damper at R
unfoldable pub struck : Constants → Option Flight → Float → StringDesign → ℕ → Reads → List Float → List Float
struck c h R d t r p =
    let touch = contact_at c h d r p in
    let inject_h = div binary64 touch.force c.two_z in
    let ys = add binary64 (get_or p (at_yS d) nan) (mul binary64 c.dt (add binary64 (add binary64 r.a r.b) inject_h)) in
    point_writes d t r inject_h (damped_by c R r) (set (set p (at_memory d) touch.memory) (at_yS d) ys)

-- read, struck, and the nut written, in one turn
abbrev pub turned : Constants → Option Flight → Float → StringDesign → ℕ → List Float → List Float
turned c h R d t p = nut_write d t (reads_of d t p) (struck c h R d t (reads_of d t p) p)

-- force_sum, and whether any force was above 0
unfoldable pub summed : ForceSum → Float → ForceSum
summed s f = record { force_sum = add binary64 s.force_sum f; any_contact = cond (lt +0 f) true s.any_contact }
