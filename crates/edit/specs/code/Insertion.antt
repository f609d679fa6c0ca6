-- Inserting a corner, computed: `proofs/Insertion.antt` shows that the checks decide the conditions.
use Rattle.std.specs.Prelude.{ℕ, List, [], ◌∷◌, ◌++◌, ltb, eqb, ℤ, length, None}
use Rattle.plane.specs.declared.Corner.{Corner}
use Rattle.plane.specs.Vector.{coordinates}
use Rattle.outline.specs.declared.Place.TheVariants.{Nowhere}
use Rattle.outline.specs.code.Checks.{Verdict, refuse_if, first, if_taken}
use Rattle.outline.specs.code.Reading.{check_point, check_repeated, check_convex, checks}
use Rattle.outline.specs.Corners.{corners, most}
use Rattle.outline.specs.Refusal.{refusal}
use Rattle.edit.specs.Insertion.{inserted, past_count, full}
use Rattle.edit.specs.code.Edit.{check_room}

-- 8, 7, 3 and 9
abbrev pub placing_checks : List Corner → ℕ → Corner → ℕ → List Verdict
placing_checks cs k v room =
    refuse_if (ltb (length cs) k) (refusal (past_count cs k) Nowhere)
    ∷ check_point v
    ∷ refuse_if (eqb (length cs) most) (refusal (full cs) Nowhere)
    ∷ check_room (inserted k v cs) room
    ∷ []

-- what the first of them that refuses answers
unfoldable pub check_placing : List Corner → ℕ → Corner → ℕ → Verdict
check_placing cs k v room = first (placing_checks cs k v room)

-- 5 and 6 of the result
abbrev pub result_checks : List Corner → List Verdict
result_checks result = check_repeated None result ∷ check_convex None result ∷ []

-- what the first of them that refuses answers
unfoldable pub check_result : List Corner → Verdict
check_result result = first (result_checks result)

-- all checks, in the order of the conditions
abbrev pub insertion_checks : List ℤ → ℕ → Corner → ℕ → List Verdict
insertion_checks s k v room =
    checks None s ++ (placing_checks (corners s) k v room ++ result_checks (inserted k v (corners s)))

-- what the first that refuses answers
unfoldable pub check_insertion : List ℤ → ℕ → Corner → ℕ → Verdict
check_insertion s k v room = first (insertion_checks s k v room)

-- what the call answers
abbrev pub insertion_verdict : List ℤ → ℕ → Corner → List ℤ → Verdict
insertion_verdict s k v out = check_insertion s k v (length out)

-- what the list to write holds after the call: the corners of the result, or what it held where the call is refused
abbrev pub insertion_list : List ℤ → ℕ → Corner → List ℤ → List ℤ
insertion_list s k v out = if_taken (insertion_verdict s k v out) (coordinates (inserted k v (corners s))) out
