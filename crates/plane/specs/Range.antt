-- How large coordinates may be.
use Rattle.std.specs.Prelude.{ℕ}
use Rattle.integers.specs.Size.{AtMost}
use Rattle.plane.specs.declared.Corner.{Corner}

-- the greatest size of a coordinate
abbrev pub limit : ℕ
limit = 16000

-- rule 1.4: both coordinates of a point are from -16,000 to 16,000
pub record InRange (p : Corner) : Type 0 where
  pub x_size : AtMost limit p.x
  pub y_size : AtMost limit p.y
