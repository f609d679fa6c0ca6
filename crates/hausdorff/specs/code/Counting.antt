-- When a corner counts, tested: seen from the other outline, cs, whose support corner is b.
-- `proofs/CountingLaws.antt` shows that v counts exactly where `Counts` says, and exactly where its nearest feature
-- is corner b, a neighbour of it, or an edge at it.
use Rattle.std.specs.Prelude.{ℕ, Bool, ◌&&◌, ◌||◌, List, pos, ◌*ℤ◌, length}
use Rattle.std.specs.Int.Signed.{le_z}
use Rattle.integers.specs.Equal.{eq_z}
use Rattle.plane.specs.declared.Corner.{Corner}
use Rattle.plane.specs.declared.Point.{Point}
use Rattle.plane.specs.Point.{whole, ◌⇢◌}
use Rattle.plane.specs.Vector.{dot}
use Rattle.outline.specs.Corners.{corner, next, previous, edge}
use Rattle.nearest.specs.Piece.{side_of, is_outside}
use Rattle.nearest.specs.code.Local.{nearest}

-- two points are the same
abbrev pub is_same : Point → Point → Bool
is_same y z =
    eq_z (y.x *ℤ pos z.lower) (z.x *ℤ pos y.lower) && eq_z (y.y *ℤ pos z.lower) (z.y *ℤ pos y.lower)

-- a point lies on edge i, its ends included: on the edge's line, not before its start and not after its end
abbrev pub lies_on : List Corner → ℕ → Point → Bool
lies_on cs i y =
    eq_z (side_of cs i y) (pos 0)
    && le_z (pos 0) (dot (edge cs i) (whole (corner cs i) ⇢ y))
    && le_z (pos 0) (dot (edge cs i) (y ⇢ whole (corner cs (next (length cs) i))))

-- a point is corner b or lies on one of the two edges that meet there, ends included
unfoldable pub lies_at : List Corner → ℕ → Point → Bool
lies_at cs b y = is_same y (whole (corner cs b)) || lies_on cs (previous (length cs) b) y || lies_on cs b y

-- v is not within the piece, and its nearest point lies at corner b
unfoldable pub is_counted : List Corner → ℕ → Corner → Bool
is_counted cs b v = is_outside cs v && lies_at cs b (nearest cs v).point
