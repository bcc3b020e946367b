-- The bound of a contact's force (document 02, W6) summed over the strings: rounding keeps the order, so the forces' sum is at most the bounds',
-- both added up string by string from +0. Definitions, and the law.
use Rattle.std.specs.Prelude.{Option, List, ℕ, T, Float}
use Rattle.std.proofs.Math.ListN.{get_or}
use Rattle.std.specs.Float.{nan}
use Rattle.std.specs.Float.Ieee.{binary64, add, le}
use Rattle.std.specs.Float.Ieee.Positive.{positive}
use Rattle.float.specs.Float.{positive_part, zero as +0}
use Rattle.float.specs.Order.{nonneg, zero_nonneg, zero_least}
use Rattle.float.specs.Difference.{part_nonneg}
use Rattle.float.specs.Sum.{add_nonneg, add_mono}
use Rattle.cells.specs.Fold.{fold_parts}
use Rattle.cells.specs.Each.{Each, fold_related}
use Rattle.hammer.specs.Contact.{half_max}
use Rattle.string.specs.declared.StringDesign.{StringDesign}
use Rattle.string.specs.declared.Reads.{Reads}
use Rattle.string.specs.String.{size_of, at_yS, at_memory}
use Rattle.points.specs.declared.Constants.{Constants}
use Rattle.points.specs.declared.Flight.{Flight}
use Rattle.points.specs.declared.ForceSum.{ForceSum}
use Rattle.points.specs.Points.{c1_of, contact_at, summed}
use Rattle.points.specs.Bound.{top_at, contact_bound}
use Rattle.strings.specs.Strings.{unread, no_force, point_force, point_force_one}

-- each string's bound, with its sign clear, summed from a in the strings' order
abbrev pub point_bound_one : Constants → Option Flight → List Reads → ℕ → StringDesign → List Float → Float → Float
point_bound_one c h v i d p b = add binary64 b (positive_part (top_at c h d (get_or v i unread) p))

abbrev pub point_bound : Constants → Option Flight → List StringDesign → List Reads → List Float → Float → Float
point_bound c h ds v w a = fold_parts size_of (point_bound_one c h v) 0 ds w a

-- the rounded c0 / c1 of each string that the hammer is at is at most half the largest f64
abbrev pub TopFits : Constants → Option Flight → List Reads → ℕ → StringDesign → List Float → Type 0
TopFits c h v i d p = T (le (top_at c h d (get_or v i unread) p) half_max)

abbrev pub TopsFit : Constants → Option Flight → List StringDesign → List Reads → List Float → Type 0
TopsFit c h ds v w = Each size_of (TopFits c h v) 0 ds w

module _ (c : Constants) (h : Option Flight) (ds : List StringDesign) (v : List Reads) (w : List Float) (q : T (positive (c1_of c))) where
  -- the sum of the forces so far is not negative, and at most that of the bounds
  abbrev Under : ForceSum → Float → Type 0
  Under s b = T (nonneg s.force_sum) × T (nonneg b) × T (le s.force_sum b)

  pub force_sum_bound : TopsFit c h ds v w
      → T (le +0 (point_force c h ds v w no_force).force_sum) × T (le (point_force c h ds v w no_force).force_sum (point_bound c h ds v w +0))
  unfolding summed
  force_sum_bound fit =
      let u = fold_related size_of (TopFits c h v) Under (point_force_one c h v) (point_bound_one c h v) sums_keep 0 ds w no_force +0 fit start in
      let f = (point_force c h ds v w no_force).force_sum in
      (zero_least f u.0, u.2)
    where
      sums_keep : (i : ℕ) (d : StringDesign) (p : List Float) (s : ForceSum) (b : Float) → TopFits c h v i d p → Under s b
          → Under (point_force_one c h v i d p s) (point_bound_one c h v i d p b)
      sums_keep i d p s b l u =
          let r = get_or v i unread in
          let f = (contact_at c h d r p).force in
          let t = positive_part (top_at c h d r p) in
          let k = contact_bound c h d.key (get_or p (at_yS d) nan) (get_or p (at_memory d) nan) r q l in
          let n = part_nonneg (top_at c h d r p) in (
            add_nonneg binary64 s.force_sum f u.0 k.0,
            add_nonneg binary64 b t u.1 n,
            add_mono binary64 s.force_sum b f t u.0 u.1 k.0 n u.2 k.1,
          )

      start : Under no_force +0
      start = (zero_nonneg, zero_nonneg, zero_least +0 zero_nonneg)
