-- The value that holds an outline.
use Rattle.std.specs.Prelude.{◌≤◌, List, take}
use Rattle.plane.specs.declared.Corner.{Corner}
use Rattle.outline.specs.declared.Outline.{Outline}
use Rattle.outline.specs.Corners.{most}
use Rattle.outline.specs.Convex.{Accepted}

-- the corners of such a value
abbrev pub corners_of : Outline → List Corner
corners_of o = take o.count o.corners

-- it holds an accepted outline
pub record IsOutline (o : Outline) : Type 0 where
  pub fits : o.count ≤ most
  pub accepted : Accepted (corners_of o)
