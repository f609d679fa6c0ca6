-- The checks that are made first. For the code alone.
use Rattle.outline.specs.declared.Side.{Side}
use Rattle.std.specs.Prelude.{List, [], ◌∷◌, ◌++◌, ℤ, Option}
use Rattle.outline.specs.Corners.{corners}
use Rattle.outline.specs.code.Checks.{Verdict, first}
use Rattle.outline.specs.code.Reading.{length_checks, check_range}

-- 1 to 3, of the length, then 4
abbrev pub number_checks : Option Side → List ℤ → List Verdict
number_checks whose s = length_checks whose s ++ (check_range whose (corners s) ∷ [])

-- what the first of them that refuses answers
abbrev pub check_numbers : Option Side → List ℤ → Verdict
check_numbers whose s = first (number_checks whose s)
