-- The default reading of an outline, computed: `proofs/EitherLaws.antt` shows that the checks decide the conditions.
use Rattle.outline.specs.declared.Side.{Side}
use Rattle.std.specs.Prelude.{cond, List, [], ◌∷◌, ◌++◌, ℤ, Option, Result, Ok}
use Rattle.plane.specs.declared.Corner.{Corner}
use Rattle.plane.specs.Vector.{◌⇀◌}
use Rattle.plane.specs.code.Tests.{is_left}
use Rattle.outline.specs.declared.EitherReading.{EitherReading}
use Rattle.outline.specs.declared.Orientation.{Orientation}
use Rattle.outline.specs.declared.Refusal.{Refusal}
use Rattle.outline.specs.declared.Orientation.TheVariants.{Counterclockwise, Clockwise}
use Rattle.outline.specs.Corners.{corners, corner, held}
use Rattle.outline.specs.Orientation.{as_held}
use Rattle.outline.specs.code.Checks.{Verdict, first, answer_if}
use Rattle.outline.specs.code.Reading.{length_checks, check_range, check_repeated, check_convex}
use Rattle.outline.specs.code.Turns.{is_convex}

-- the orientation that the first three corners have: corner 2 is strictly left of edge 0, or it is not
unfoldable pub orientation_of : List Corner → Orientation
orientation_of cs =
    cond (is_left (corner cs 0) (corner cs 0 ⇀ corner cs 1) (corner cs 2)) Counterclockwise Clockwise

-- the corners as they are held
abbrev pub held_corners : List ℤ → List Corner
held_corners s = as_held (orientation_of (corners s)) (corners s)

module _ (whose : Option Side) where
  -- 6
  unfoldable pub check_either_convex : List Corner → Verdict
  check_either_convex cs = cond (is_convex (as_held (orientation_of cs) cs)) (Ok tt) (check_convex whose cs)

  -- all checks of a list
  abbrev pub either_checks : List ℤ → List Verdict
  either_checks s =
      length_checks whose s
      ++ (check_range whose (corners s) ∷ check_repeated whose (corners s) ∷ check_either_convex (corners s) ∷ [])

  -- what the first that refuses answers
  unfoldable pub check_either : List ℤ → Verdict
  check_either s = first (either_checks s)

  -- what the default reading gives
  abbrev pub either_reading : List ℤ → Result EitherReading Refusal
  either_reading s =
      answer_if (check_either s) (record { outline = held (held_corners s); orientation = orientation_of (corners s) })
