-- What the laws of geometry ask of an outline, with no range and no limit of 256.
use Rattle.std.specs.Prelude.{◌≤◌, List, length}
use Rattle.plane.specs.declared.Corner.{Corner}
use Rattle.outline.specs.Convex.{StrictlyConvex}

-- three corners or more, strictly convex
pub record Polygon (cs : List Corner) : Type 0 where
  pub at_least : 3 ≤ length cs
  pub convex : StrictlyConvex cs
