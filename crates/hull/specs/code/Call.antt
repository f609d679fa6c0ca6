-- The call for the convex hull, computed: `proofs/CallLaws.antt` shows that this is what `IsHullAnswer` says and nothing
-- else.
use Rattle.outline.specs.declared.Refusal.{Refusal}
use Rattle.std.specs.Prelude.{ℕ, not, ◌||◌, List, [], ◌∷◌, ◌++◌, eqb, ltb, ℤ, length, None, Result, Ok, Err}
use Rattle.plane.specs.Vector.{coordinates}
use Rattle.outline.specs.declared.Place.TheVariants.{Nowhere}
use Rattle.outline.specs.code.Checks.{Verdict, refuse_if, first, if_taken}
use Rattle.outline.specs.code.Reading.{check_odd_length, check_most, check_range}
use Rattle.outline.specs.Corners.{corners, fewest}
use Rattle.outline.specs.Refusal.{refusal}
use Rattle.hull.specs.Call.{wrong_lengths, no_outline, filled_up}
use Rattle.hull.specs.code.Wrapping.{convex_hull}
use Rattle.hull.specs.code.Marks.{marks}

-- 9
abbrev pub check_lengths : List ℤ → ℕ → ℕ → Verdict
check_lengths s room mark-room =
    refuse_if (not (eqb room (length s)) || not (eqb mark-room (length (corners s)))) (refusal (wrong_lengths s room mark-room) Nowhere)

-- 2: the hull has too few corners for an outline
abbrev pub check_outline : List ℤ → Verdict
check_outline s =
    refuse_if (ltb (length (convex_hull (corners s))) fewest) (refusal (no_outline (corners s)) Nowhere)

-- 1, 3, 4 and 9
abbrev pub point_checks : List ℤ → ℕ → ℕ → List Verdict
point_checks s room mark-room =
    check_odd_length None s ∷ check_most None (corners s) ∷ check_range None (corners s) ∷ check_lengths s room mark-room ∷ []

-- what the first of them that refuses answers
unfoldable pub check_points : List ℤ → ℕ → ℕ → Verdict
check_points s room mark-room = first (point_checks s room mark-room)

-- all checks, in the order of the conditions
abbrev pub hull_checks : List ℤ → ℕ → ℕ → List Verdict
hull_checks s room mark-room = point_checks s room mark-room ++ (check_outline s ∷ [])

-- what the first that refuses answers
unfoldable pub check_hull : List ℤ → ℕ → ℕ → Verdict
check_hull s room mark-room = first (hull_checks s room mark-room)

-- what the call answers, by that
abbrev pub answer_for : List ℤ → Verdict → Result ℕ Refusal
answer_for s (Ok _) = Ok (length (convex_hull (corners s)))
answer_for s (Err r) = Err r

-- what the call answers
abbrev pub hull_answer : List ℤ → List ℤ → List ℤ → Result ℕ Refusal
hull_answer s out marks = answer_for s (check_hull s (length out) (length marks))

-- what the list for the corners holds after the call: the corners and then zeros, or what it held where the call is refused
abbrev pub hull_list : List ℤ → List ℤ → List ℤ → List ℤ
hull_list s out ms =
    if_taken (check_hull s (length out) (length ms)) (filled_up (length s) (coordinates (convex_hull (corners s)))) out

-- what the list for the marks holds then
abbrev pub hull_marks : List ℤ → List ℤ → List ℤ → List ℤ
hull_marks s out ms =
    if_taken (check_hull s (length out) (length ms)) (marks (corners s) (convex_hull (corners s))) ms
