-- The bound of a contact's force (document 02, W6) for a string as it stands, whether the hammer is at it or not. Definitions, and the law of one string.
use Rattle.std.specs.Prelude.{Bool, Option, Some, None, true, false, cond, List, ℕ, T, eqb, get_or, Float}
use Rattle.std.specs.Float.{nan, binary64}
use Rattle.std.specs.Float.Ieee.{mul, div, le}
use Rattle.std.specs.Float.Ieee.Positive.{positive}
use Rattle.float.specs.Float.{positive_part, zero as +0}
use Rattle.float.specs.Order.{nonneg, zero_nonneg, zero_least}
use Rattle.float.specs.Difference.{part_nonneg}
use Rattle.hammer.specs.Contact.{half_max}
use Rattle.hammer.proofs.Bound.{force_part}
use Rattle.string.specs.declared.StringDesign.{StringDesign}
use Rattle.string.specs.declared.Reads.{Reads}
use Rattle.string.specs.String.{at_yS}
use Rattle.points.specs.declared.Constants.{Constants}
use Rattle.points.specs.declared.Flight.{Flight}
use Rattle.points.specs.declared.Contact.{Contact}
use Rattle.points.specs.Points.{c0_of, c1_of, touched, contact_of}

-- the rounded c0 / c1 of a string that the hammer is at, 0 of every other
unfoldable pub top_of : Constants → Option Flight → ℕ → Float → Reads → Float
top_of c None key ys r = +0
top_of c (Some h) key ys r = cond (eqb h.key_index key) (div binary64 (c0_of c h.y_h h.v_h ys r) (c1_of c)) +0

abbrev pub top_at : Constants → Option Flight → StringDesign → Reads → List Float → Float
top_at c h d r p = top_of c h d.key (get_or p (at_yS d) nan) r

no_contact : T (nonneg +0) × T (le +0 (positive_part +0))
no_contact = (zero_nonneg, zero_least (positive_part +0) (part_nonneg +0))

-- the force is not negative, and at most the positive part of that
pub contact_bound : (c : Constants) (h : Option Flight) (key : ℕ) (ys memory : Float) (r : Reads) → T (positive (c1_of c))
    → T (le (top_of c h key ys r) half_max)
    → T (nonneg (contact_of c h key ys memory r).force) × T (le (contact_of c h key ys memory r).force (positive_part (top_of c h key ys r)))
unfolding contact_of top_of touched
contact_bound c None key ys memory r q l = no_contact
contact_bound c (Some h) key ys memory r q l = go (eqb h.key_index key) l
  where
    top : Float
    top = div binary64 (c0_of c h.y_h h.v_h ys r) (c1_of c)

    contact : Bool → Contact
    contact b = cond b (touched c h.y_h h.v_h ys memory r) (record { force = +0; memory = memory })

    go : (b : Bool) → T (le (cond b top +0) half_max) → T (nonneg (contact b).force) × T (le (contact b).force (positive_part (cond b top +0)))
    go true l = force_part c.hammer (mul binary64 c.hammer.eps memory) (c0_of c h.y_h h.v_h ys r) (c1_of c) q l
    go false l = no_contact
