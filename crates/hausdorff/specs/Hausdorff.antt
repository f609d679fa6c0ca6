-- Rule 4.5: the squared Hausdorff distance of two pieces, over all their points X/D, Y/D.
use Rattle.std.specs.Prelude.{◌<◌, List}
use Rattle.integers.specs.declared.fraction.Fraction.{Fraction}
use Rattle.integers.specs.Fraction.{NotGreater, SameValue}
use Rattle.plane.specs.declared.Corner.{Corner}
use Rattle.plane.specs.declared.Point.{Point}
use Rattle.plane.specs.Point.{squared_distance}
use Rattle.nearest.specs.Piece.{InPiece}
use Rattle.outline.specs.declared.Side.{Side}
use Rattle.hausdorff.specs.Pair.{Pair, other}

-- every point of the first piece has a point of the second at a squared distance of at most g
abbrev pub DistanceAtMost : Fraction → List Corner → List Corner → Type 0
DistanceAtMost g cs ds = (p : Point) → InPiece cs p → (q : Point) × InPiece ds q × NotGreater (squared_distance p q) g

-- some point of the first has every point of the second at a squared distance of at least g
abbrev pub DistanceAtLeast : Fraction → List Corner → List Corner → Type 0
DistanceAtLeast g cs ds = (p : Point) × InPiece cs p × ((q : Point) → InPiece ds q → NotGreater g (squared_distance p q))

-- g is the squared directed Hausdorff distance from the first to the second: the greatest, over the points of the
-- first, of the least squared distance to a point of the second
pub record Directed (cs ds : List Corner) (g : Fraction) : Type 0 where
  pub lower_positive : 0 < g.lower
  pub at_most : DistanceAtMost g cs ds
  pub at_least : DistanceAtLeast g cs ds

-- g is, as a value, the greater of the squared directed Hausdorff distances from A to B and from B to A
pub record Hausdorff (pair : Pair) (g : Fraction) : Type 0 where
  pub lower_positive : 0 < g.lower
  -- the two distances, from each side to the other
  pub from : Side → Fraction
  pub directed : (s : Side) → Directed (pair s) (pair (other s)) (from s)
  -- g is one of them, as a value, and neither is greater
  pub one_of_both : (s : Side) × SameValue (from s) g
  pub not_less : (s : Side) → NotGreater (from s) g
