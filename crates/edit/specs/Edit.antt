-- What a call gives that edits an outline: it writes the corners of the edited outline to a list, or refuses.
use Rattle.outline.specs.declared.Fault.TheVariants.{WrongLength}
use Rattle.outline.specs.Refusal.{condition}
use Rattle.std.specs.Prelude.{ℕ, ◌≡◌, ◌≢◌, List, ℤ, length, None, Ok, Err, Result, ⊤}
use Rattle.plane.specs.declared.Corner.{Corner}
use Rattle.plane.specs.Vector.{coordinates}
use Rattle.outline.specs.declared.Refusal.{Refusal}
use Rattle.outline.specs.Conditions.{AcceptedList}
use Rattle.outline.specs.Refusal.{Condition, without_place, FirstFault}

-- 9, the list to write, of length `room`, is not exactly as long as the list of the edited outline's corners, cs
abbrev pub wrong_length : List Corner → ℕ → Condition
wrong_length cs room = condition WrongLength None (without_place (room ≢ length (coordinates cs)))

-- a call that looks at these conditions; what it asks, which `removal-taken` and `insertion-taken` show to hold exactly
-- where none of them applies; the corners cs of the edited outline; and what the list to write held before the call
module _ (conditions : List Condition) (permitted : Type 0) (cs : List Corner) (before : List ℤ) where
  -- `answer` is what the call gives, and `after` what the list to write holds then
  pub data IsEdit (answer : Result ⊤ Refusal) (after : List ℤ) : Type 0 where
    -- the refusal of the first condition that applies, and the list is as it was
    refused : (r : Refusal) → FirstFault conditions r → answer ≡ Err r → after ≡ before → IsEdit answer after
    -- otherwise the list has the corners in their order, and gives an accepted outline again
    edited : permitted → AcceptedList after → answer ≡ Ok tt → after ≡ coordinates cs → IsEdit answer after
