-- The test of a point's range, and how large differences and products are.
use Rattle.std.specs.Prelude.{ℕ, ◌+◌, Bool, ◌&&◌, leb, ℤ, nat_abs}
use Rattle.integers.specs.Size.{AtMost}
use Rattle.plane.specs.declared.Corner.{Corner}
use Rattle.plane.specs.declared.Vector.{Vector}
use Rattle.plane.specs.Range.{limit}

-- a number is in the range of a coordinate
abbrev pub is_coordinate : ℤ → Bool
is_coordinate z = leb (nat_abs z) limit

-- both coordinates of a point are: it decides `InRange`
unfoldable pub in_range : Corner → Bool
in_range p = is_coordinate p.x && is_coordinate p.y

-- each component of a vector is at most b in size
pub record Span (b : ℕ) (v : Vector) : Type 0 where
  pub x_size : AtMost b v.x
  pub y_size : AtMost b v.y

-- the most that two points in range differ by, in x or in y
abbrev pub reach : ℕ
reach = limit + limit

-- rule 1.8, the most that a side number comes to in size; dot products and squared lengths are no larger
abbrev pub product_limit : ℕ
product_limit = 2048000000
