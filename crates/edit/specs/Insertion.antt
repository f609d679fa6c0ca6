-- Rule 7.9: inserting a point v as corner k into the outline that a list s gives, with the corners of the result written
-- to a list of length `room`.
use Rattle.outline.specs.declared.Refusal.{Refusal}
use Rattle.outline.specs.declared.Fault.TheVariants.{TooMany, NoSuchCorner}
use Rattle.outline.specs.Refusal.{condition}
use Rattle.std.specs.Prelude.{ℕ, ◌≤◌, ◌<◌, ◌≡◌, List, [], ◌∷◌, ◌++◌, ℤ, length, take, drop, None, Result, ⊤}
use Rattle.plane.specs.declared.Corner.{Corner}
use Rattle.plane.specs.Vector.{coordinates}
use Rattle.outline.specs.Conditions.{repeated, not_left, point_out_of_range, reading_conditions, AcceptedList}
use Rattle.outline.specs.Convex.{Accepted}
use Rattle.outline.specs.Corners.{corners, most}
use Rattle.outline.specs.Refusal.{Condition, without_place}
use Rattle.edit.specs.Edit.{wrong_length, IsEdit}

-- the result: the corners in their order, with v as corner k: before what was corner k or, where k is their count, after
-- the last
unfoldable pub inserted : ℕ → Corner → List Corner → List Corner
inserted k v cs = take k cs ++ (v ∷ drop k cs)

-- 8, a place past the count of corners
abbrev pub past_count : List Corner → ℕ → Condition
past_count cs k = condition NoSuchCorner None (without_place (length cs < k))

-- 3, there are 256 corners already
abbrev pub full : List Corner → Condition
full cs = condition TooMany None (without_place (length cs ≡ most))

-- 8, 7, 3 and 9
abbrev pub placing_conditions : List Corner → ℕ → Corner → ℕ → List Condition
placing_conditions cs k v room =
    past_count cs k ∷ point_out_of_range v ∷ full cs ∷ wrong_length (inserted k v cs) room ∷ []

-- 5 and 6 for the result, with places in the result. 1 to 4 cannot apply to it where none of the conditions before does
abbrev pub result_conditions : List Corner → List Condition
result_conditions result = repeated None result ∷ not_left None result ∷ []

-- rule 2.9: 1 to 6 of the list s, read strictly, then 8, 7, 3 and 9, and last 5 and 6 for the result
abbrev pub insertion_conditions : List ℤ → ℕ → Corner → ℕ → List Condition
insertion_conditions s k v room =
    reading_conditions None s
    ++ (placing_conditions (corners s) k v room ++ result_conditions (inserted k v (corners s)))

-- what an insertion asks: a list that is accepted strictly, a place from 0 to its corner count, a list to write exactly as
-- long as the result, and a result that is accepted, so that v is in range and there are not 256 corners already.
-- `insertion-taken` in `proofs/Insertion.antt` shows that this is where no condition applies
pub record PermittedInsertion (s : List ℤ) (k : ℕ) (v : Corner) (room : ℕ) : Type 0 where
  pub accepted : AcceptedList s
  pub known : k ≤ length (corners s)
  pub long : room ≡ length (coordinates (inserted k v (corners s)))
  pub result : Accepted (inserted k v (corners s))

-- what the call gives, and what the list to write holds then, which held `out`: a refusal, and what it held; or Ok,
-- and the corners with v as corner k
abbrev pub IsInsertion : List ℤ → ℕ → Corner → List ℤ → Result ⊤ Refusal → List ℤ → Type 0
IsInsertion s k v out =
    IsEdit (insertion_conditions s k v (length out)) (PermittedInsertion s k v (length out)) (inserted k v (corners s)) out
