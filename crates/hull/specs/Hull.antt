-- Rule 1.11: the convex hull of some points, as an outline.
use Rattle.std.specs.Prelude.{ℕ, ◌<◌, List, length}
use Rattle.plane.specs.declared.Corner.{Corner}
use Rattle.plane.specs.declared.Point.{Point}
use Rattle.plane.specs.Height.{NotAfter}
use Rattle.plane.specs.Point.{whole}
use Rattle.outline.specs.Convex.{StrictlyConvex, Accepted}
use Rattle.outline.specs.Corners.{corner}
use Rattle.nearest.specs.Piece.{InPiece}

-- the piece with the corners qs holds the points ps
abbrev pub HoldsPoints : List Corner → List Corner → Type 0
HoldsPoints qs ps = (i : ℕ) → i < length ps → InPiece qs (whole (corner ps i))

-- hs are the corners of the outline of the smallest convex piece that holds the points ps, from the lowest on
pub record IsHull (ps hs : List Corner) : Type 0 where
  -- an outline: counterclockwise, and with no straight corner
  pub accepted : Accepted hs
  -- its piece holds the points
  pub holds : HoldsPoints hs ps
  -- and every convex piece that holds them, of any size, holds all of it. A list of fewer than three corners says nothing
  -- here of points that do not lie in one line
  pub smallest : (qs : List Corner) → StrictlyConvex qs → HoldsPoints qs ps → (z : Point) → InPiece hs z → InPiece qs z
  -- it starts at the corner of least y, of equals the one of least x
  pub starts : (i : ℕ) → i < length hs → NotAfter (corner hs 0) (corner hs i)
