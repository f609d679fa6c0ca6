-- Rule 1.6: the piece, the region that is strictly right of no edge, its border included.
use Rattle.std.specs.Prelude.{ℕ, ◌<◌, Bool, not, List, ℤ, pos, length, ◌≤ℤ◌}
use Rattle.std.specs.Int.Signed.{le_z}
use Rattle.lists.specs.Fold.{all}
use Rattle.plane.specs.declared.Corner.{Corner}
use Rattle.plane.specs.declared.Point.{Point}
use Rattle.plane.specs.Point.{Proper, whole, ◌⇢◌}
use Rattle.plane.specs.Vector.{cross, side}
use Rattle.outline.specs.Corners.{corner, next, edge}

-- the side number of a point against edge i, times the point's lower number, which is above 0 and so keeps the sign
abbrev pub side_of : List Corner → ℕ → Point → ℤ
side_of cs i z = cross (edge cs i) (whole (corner cs i) ⇢ z)

-- a point is in the piece
pub record InPiece (cs : List Corner) (z : Point) : Type 0 where
  pub proper : Proper z
  pub right_of_none : (i : ℕ) → i < length cs → pos 0 ≤ℤ side_of cs i z

-- a point is not in the piece
abbrev pub Outside : List Corner → Point → Type 0
Outside cs z = ¬ InPiece cs z

-- the test that v is outside: it does not hold of every edge that v is on its line or left of it
abbrev pub is_outside : List Corner → Corner → Bool
is_outside cs v = not (all (λ i. le_z (pos 0) (side (corner cs i) (corner cs (next (length cs) i)) v)) (length cs))
