-- The call for the nearest point, computed: `proofs/CallLaws.antt` shows that the checks decide the conditions.
use Rattle.outline.specs.declared.Refusal.{Refusal}
use Rattle.std.specs.Prelude.{List, [], ◌∷◌, ◌++◌, ℤ, length, None, Result, Ok, Err}
use Rattle.plane.specs.declared.Corner.{Corner}
use Rattle.outline.specs.code.Checks.{Verdict, first}
use Rattle.outline.specs.code.Either.{orientation_of, held_corners, either_checks}
use Rattle.outline.specs.code.Reading.{check_point}
use Rattle.outline.specs.Corners.{corners}
use Rattle.nearest.specs.Given.{given_nearest}
use Rattle.nearest.specs.declared.NearestPoint.{NearestPoint}
use Rattle.nearest.specs.code.Local.{nearest}

-- all checks, in the order of the conditions
abbrev pub nearest_checks : Corner → List ℤ → List Verdict
nearest_checks v s = either_checks None s ++ (check_point v ∷ [])

-- what the first that refuses answers
unfoldable pub check_nearest : Corner → List ℤ → Verdict
check_nearest v s = first (nearest_checks v s)

-- the nearest point of the outline as held, by the list as given
abbrev pub nearest_given : Corner → List ℤ → NearestPoint
nearest_given v s = given_nearest (orientation_of (corners s)) (length (corners s)) (nearest (held_corners s) v)

-- what the call answers, by what the checks find
abbrev pub answer_for : Corner → List ℤ → Verdict → Result NearestPoint Refusal
answer_for v s (Ok _) = Ok (nearest_given v s)
answer_for v s (Err r) = Err r

-- what the call answers
abbrev pub nearest_answer : Corner → List ℤ → Result NearestPoint Refusal
nearest_answer v s = answer_for v s (check_nearest v s)
