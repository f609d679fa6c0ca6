-- Rule 7.5: removing corner k from the outline that a list s gives, with the other corners written to a list of
-- length `room`.
use Rattle.outline.specs.declared.Refusal.{Refusal}
use Rattle.outline.specs.declared.Fault.TheVariants.{TooFew, NoSuchCorner}
use Rattle.outline.specs.Refusal.{condition}
use Rattle.std.specs.Prelude.{ℕ, suc, ◌≤◌, ◌<◌, ◌≡◌, ◌≢◌, List, [], ◌∷◌, ◌++◌, ℤ, length, take, drop, None, Result, ⊤}
use Rattle.plane.specs.declared.Corner.{Corner}
use Rattle.plane.specs.Vector.{coordinates}
use Rattle.outline.specs.Conditions.{reading_conditions, AcceptedList}
use Rattle.outline.specs.Corners.{corners}
use Rattle.outline.specs.Refusal.{Condition, without_place}
use Rattle.edit.specs.Edit.{wrong_length, IsEdit}

-- the other corners in their order
unfoldable pub without : ℕ → List Corner → List Corner
without k cs = take k cs ++ drop (suc k) cs

-- 8, no corner has that number
abbrev pub no_such_corner : List Corner → ℕ → Condition
no_such_corner cs k = condition NoSuchCorner None (without_place (length cs ≤ k))

-- the count of an outline that no corner can be removed from
abbrev pub smallest : ℕ
smallest = 3

-- 2, the outline has just 3 corners
abbrev pub just_three : List Corner → Condition
just_three cs = condition TooFew None (without_place (length cs ≡ smallest))

-- 8, 2 and 9
abbrev pub own_conditions : List Corner → ℕ → ℕ → List Condition
own_conditions cs k room = no_such_corner cs k ∷ just_three cs ∷ wrong_length (without k cs) room ∷ []

-- rule 2.7: 1 to 6 of the list s, read strictly, then 8, 2 and 9
abbrev pub removal_conditions : List ℤ → ℕ → ℕ → List Condition
removal_conditions s k room = reading_conditions None s ++ own_conditions (corners s) k room

-- what a removal asks: a list that is accepted strictly, a corner with that number, not just 3 corners, and a list to
-- write exactly as long as what remains. `removal-taken` in `proofs/Removal.antt` shows that this is where no condition applies
pub record Permitted (s : List ℤ) (k room : ℕ) : Type 0 where
  pub accepted : AcceptedList s
  pub known : k < length (corners s)
  pub more : length (corners s) ≢ smallest
  pub long : room ≡ length (coordinates (without k (corners s)))

-- what the call gives, and what the list to write holds then, which held `out`: a refusal, and what it held; or Ok,
-- and the other corners in their order
abbrev pub IsRemoval : List ℤ → ℕ → List ℤ → Result ⊤ Refusal → List ℤ → Type 0
IsRemoval s k out = IsEdit (removal_conditions s k (length out)) (Permitted s k (length out)) (without k (corners s)) out
