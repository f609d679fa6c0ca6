-- Rule 7.10: the convex hull of the points that a list s gives, with its corners written to a list of length `room`, and
-- a mark for every point to one of length `mark-room`.
use Rattle.std.specs.Prelude.{ℕ, ◌-◌, ◌%◌, ◌≤◌, ◌<◌, ◌≡◌, ◌≢◌, ◌⊎◌, List, [], ◌∷◌, ◌++◌, ℤ, pos, length, replicate, None, Result, Ok, Err}
use Rattle.outline.specs.declared.Fault.TheVariants.{TooFew, WrongLength}
use Rattle.plane.specs.declared.Corner.{Corner}
use Rattle.plane.specs.Vector.{side, coordinates}
use Rattle.outline.specs.declared.Refusal.{Refusal}
use Rattle.outline.specs.Conditions.{odd_length, too_many, out_of_range}
use Rattle.outline.specs.Convex.{AllInRange}
use Rattle.outline.specs.Corners.{corners, corner, most}
use Rattle.outline.specs.Refusal.{condition, Condition, without_place, FirstFault}
use Rattle.hull.specs.Hull.{IsHull}
use Rattle.hull.specs.Marks.{AreMarks}

-- 9, the list for the corners is not as long as the list of points, or the one for the marks has not one place for each
abbrev pub wrong_lengths : List ℤ → ℕ → ℕ → Condition
wrong_lengths s room mark-room = condition WrongLength None (without_place ((room ≢ length s) ⊎ (mark-room ≢ length (corners s))))

-- all points lie in one line: any three of them have side number 0. One or two points always do, and none
abbrev pub InLine : List Corner → Type 0
InLine ps =
    (i j k : ℕ) → i < length ps → j < length ps → k < length ps → side (corner ps i) (corner ps j) (corner ps k) ≡ pos 0

-- 2, there are no points, or all lie in one line
abbrev pub no_outline : List Corner → Condition
no_outline ps = condition TooFew None (without_place ((length ps ≡ 0) ⊎ InLine ps))

-- of the points and of the lists to write: 1, 3 and 4 of the list s, then 9
abbrev pub point_conditions : List ℤ → ℕ → ℕ → List Condition
point_conditions s room mark-room =
    odd_length None s
    ∷ too_many None (corners s)
    ∷ out_of_range None (corners s)
    ∷ wrong_lengths s room mark-room
    ∷ []

-- rule 2.10: these, and last 2
abbrev pub hull_conditions : List ℤ → ℕ → ℕ → List Condition
hull_conditions s room mark-room = point_conditions s room mark-room ++ (no_outline (corners s) ∷ [])

-- what the call asks of the lists: a list of even length, of at most 256 points, all in range, and two lists to write of
-- the right lengths. `hull-taken` in `proofs/CallLaws.antt` shows that the call is taken exactly where this is so and
-- the points do not lie in one line
pub record PermittedPoints (s : List ℤ) (room mark-room : ℕ) : Type 0 where
  pub even : length s % 2 ≡ 0
  pub at_most : length (corners s) ≤ most
  pub all_in_range : AllInRange (corners s)
  pub long : room ≡ length s
  pub marks_long : mark-room ≡ length (corners s)

-- numbers, at most n, and then zeros up to n in all
abbrev pub filled_up : ℕ → List ℤ → List ℤ
filled_up n zs = zs ++ replicate (n - length zs) (pos 0)

-- the lists to write hold `out` and `marks` before the call
module _ (s out marks : List ℤ) where
  -- `answer` is what the call gives, and `out-after` and `marks-after` what the lists hold then
  pub data IsHullAnswer (answer : Result ℕ Refusal) (out-after marks-after : List ℤ) : Type 0 where
    -- the refusal of the first condition that applies, and both lists are as they were
    refused : (r : Refusal) → FirstFault (hull_conditions s (length out) (length marks)) r
        → answer ≡ Err r → out-after ≡ out → marks-after ≡ marks → IsHullAnswer answer out-after marks-after
    -- otherwise the corner count; the corners in their order and then zeros; and the marks
    made : PermittedPoints s (length out) (length marks) → ¬ InLine (corners s) → (hs : List Corner) → IsHull (corners s) hs
        → answer ≡ Ok (length hs) → out-after ≡ filled_up (length s) (coordinates hs)
        → AreMarks (corners s) hs marks-after → IsHullAnswer answer out-after marks-after
