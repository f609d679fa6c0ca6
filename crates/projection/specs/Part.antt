-- The part of an edge that is nearest to a point v. For the code alone, which looks for one only if v is right of it.
use Rattle.std.specs.Prelude.{cond, Option, Some, None}
use Rattle.plane.specs.declared.Corner.{Corner}
use Rattle.plane.specs.Vector.{◌⇀◌}
use Rattle.plane.specs.code.Tests.{is_right}
use Rattle.nearest.specs.code.Local.{foot_is_between, corner_is_nearest}
use Rattle.projection.specs.declared.local.Part.{Part}
use Rattle.projection.specs.declared.local.Part.TheVariants.{Start, Between, End}

-- the part of the edge from p to q that is nearest to v, if any; `before` and `after` are the corners next to it
abbrev pub nearest_part : Corner → Corner → Corner → Corner → Corner → Option Part
nearest_part v before p q after =
    cond (is_right p (p ⇀ q) v)
    (cond (foot_is_between v p q) (Some Between)
    (cond (corner_is_nearest v before p q) (Some Start)
    (cond (corner_is_nearest v p q after) (Some End) None)))
    None
