-- A string keeps its length at its points.
use Rattle.std.specs.Prelude.{Option, ◌≡◌, List, ℕ, length, Float}
use Rattle.std.proofs.Common.{◌∙◌, length-set}
use Rattle.string.specs.declared.StringDesign.{StringDesign}
use Rattle.string.specs.declared.Reads.{Reads}
use Rattle.string.specs.String.{reads_of}
use Rattle.string.specs.Laws.{points_length, nut_length}
use Rattle.points.specs.declared.Constants.{Constants}
use Rattle.points.specs.declared.Flight.{Flight}
use Rattle.points.specs.Points.{struck, turned}

pub struck_length : (c : Constants) (h : Option Flight) (R : Float) (d : StringDesign) (t : ℕ) (r : Reads) (p : List Float)
    → length (struck c h R d t r p) ≡ length p
unfolding struck
struck_length c h R d t r p = simp (points_length, length-set)

pub turned_length : (c : Constants) (h : Option Flight) (R : Float) (d : StringDesign) (t : ℕ) (p : List Float) → length (turned c h R d t p) ≡ length p
turned_length c h R d t p = nut_length d t (reads_of d t p) (struck c h R d t (reads_of d t p) p) ∙ struck_length c h R d t (reads_of d t p) p
