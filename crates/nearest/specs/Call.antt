-- Rule 7.3: what the call gives for the nearest point, to a point v, of the outline of a list s.
use Rattle.std.specs.Prelude.{◌≡◌, List, [], ◌∷◌, ◌++◌, ℤ, length, None, Result, Ok, Err}
use Rattle.plane.specs.declared.Corner.{Corner}
use Rattle.plane.specs.Range.{InRange}
use Rattle.outline.specs.declared.Orientation.{Orientation}
use Rattle.outline.specs.declared.Refusal.{Refusal}
use Rattle.outline.specs.Conditions.{either_conditions, point_out_of_range}
use Rattle.outline.specs.Corners.{corners}
use Rattle.outline.specs.Orientation.{as_held, AcceptedAs}
use Rattle.outline.specs.Refusal.{Condition, FirstFault}
use Rattle.nearest.specs.declared.NearestPoint.{NearestPoint}
use Rattle.nearest.specs.Given.{given_nearest}
use Rattle.nearest.specs.Nearest.{Answers}

-- rule 2.5: 1 to 6 for the outline, then 7
abbrev pub nearest_conditions : Corner → List ℤ → List Condition
nearest_conditions v s = either_conditions None s ++ (point_out_of_range v ∷ [])

-- `result` is what the call gives
pub data IsNearestAnswer (v : Corner) (s : List ℤ) (result : Result NearestPoint Refusal) : Type 0 where
  -- the refusal of the first condition that applies
  refused : (r : Refusal) → FirstFault (nearest_conditions v s) r → result ≡ Err r → IsNearestAnswer v s result
  -- otherwise the list is accepted with an orientation and the point in range; the nearest point of the outline as held
  -- is answered, with its feature named by the list as given
  found : (o : Orientation) (a : NearestPoint) → AcceptedAs o s → InRange v → Answers (as_held o (corners s)) v a
      → result ≡ Ok (given_nearest o (length (corners s)) a) → IsNearestAnswer v s result
