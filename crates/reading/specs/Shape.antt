-- The checks that are made after those of the numbers. For the code alone.
use Rattle.outline.specs.declared.Side.{Side}
use Rattle.std.specs.Prelude.{List, [], ◌∷◌, Option}
use Rattle.plane.specs.declared.Corner.{Corner}
use Rattle.outline.specs.code.Checks.{Verdict, first}
use Rattle.outline.specs.code.Reading.{check_repeated, check_convex}

-- 5, then 6
abbrev pub check_shape : Option Side → List Corner → Verdict
check_shape whose cs = first (check_repeated whose cs ∷ check_convex whose cs ∷ [])
