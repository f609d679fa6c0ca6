-- The nearest point of a piece to a point, and the nearest feature, as relations.
use Rattle.std.specs.Prelude.{ℕ, ◌<◌, ◌≡◌, List, pos, length, ◌≤ℤ◌, ◌<ℤ◌}
use Rattle.integers.specs.Fraction.{NotGreater, SameValue}
use Rattle.plane.specs.declared.Corner.{Corner}
use Rattle.plane.specs.declared.Point.{Point}
use Rattle.plane.specs.Point.{whole, ◌⇢◌, Same, squared_distance}
use Rattle.plane.specs.Vector.{dot}
use Rattle.outline.specs.Corners.{corner, next, edge}
use Rattle.nearest.specs.declared.Feature.{Feature}
use Rattle.nearest.specs.declared.NearestPoint.{NearestPoint}
use Rattle.nearest.specs.Feature.{values}
use Rattle.nearest.specs.Piece.{side_of, InPiece, Outside}

-- rule 3.1: y is the point of the piece for which (v - y)·(c - y) is at most 0 for every corner c of the piece. Here
-- it is multiplied by v's lower number and the square of y's, which are above 0 for proper points
pub record Nearest (cs : List Corner) (v y : Point) : Type 0 where
  pub in_piece : InPiece cs y
  pub at_most_0 : (i : ℕ) → i < length cs → dot (y ⇢ v) (y ⇢ whole (corner cs i)) ≤ℤ pos 0

-- y lies strictly between the ends of edge i: on its line, after its start and before its end
pub record Between (cs : List Corner) (i : ℕ) (y : Point) : Type 0 where
  pub on_line : side_of cs i y ≡ pos 0
  pub after_start : pos 0 <ℤ dot (edge cs i) (whole (corner cs i) ⇢ y)
  pub before_end : pos 0 <ℤ dot (edge cs i) (y ⇢ whole (corner cs (next (length cs) i)))

-- rule 3.3, the feature that a nearest point y is, seen from v: within, where v is in the piece and y = v; otherwise
-- corner i, where y is that corner, or edge i, where y lies strictly between its ends
abbrev pub Fits : List Corner → Point → Point → Feature → Type 0
Fits cs v y Feature.Within = InPiece cs v × Same y v
Fits cs v y (Feature.Corner i) = Outside cs v × (i < length cs) × Same y (whole (corner cs i))
Fits cs v y (Feature.Edge i) = Outside cs v × (i < length cs) × Between cs i y

-- a is the nearest point to v as it is answered
pub record Answers (cs : List Corner) (v : Corner) (a : NearestPoint) : Type 0 where
  -- its point is the nearest, the only one, and no point of the piece is nearer to v
  pub nearest : Nearest cs (whole v) a.point
  pub unique : (z : Point) → Nearest cs (whole v) z → Same z a.point
  pub none_nearer : (z : Point) → InPiece cs z
      → NotGreater (squared_distance (whole v) a.point) (squared_distance (whole v) z)
  -- its feature is what that point is
  pub fits : Fits cs (whole v) a.point a.feature
  -- its gap is the squared distance; gap and point are written as rule 3.4 sets them out
  pub distance : SameValue a.gap (squared_distance (whole v) a.point)
  pub written : a ≡ values cs v a.feature
