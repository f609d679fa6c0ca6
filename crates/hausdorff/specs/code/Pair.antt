-- What is asked of the two outlines.
use Rattle.outline.specs.Convex.{Accepted}
use Rattle.outline.specs.code.Polygon.{Polygon}
use Rattle.outline.specs.declared.Side.{Side}
use Rattle.hausdorff.specs.Pair.{Pair}

-- both outlines are accepted
abbrev pub AcceptedPair : Pair → Type 0
AcceptedPair pair = (s : Side) → Accepted (pair s)

-- both are polygons: what the laws of geometry ask
abbrev pub Polygons : Pair → Type 0
Polygons pair = (s : Side) → Polygon (pair s)
