-- Removing a corner, computed: `proofs/Removal.antt` shows that the checks decide the conditions.
use Rattle.std.specs.Prelude.{ℕ, List, [], ◌∷◌, ◌++◌, leb, eqb, ℤ, length, None}
use Rattle.plane.specs.declared.Corner.{Corner}
use Rattle.plane.specs.Vector.{coordinates}
use Rattle.outline.specs.declared.Place.TheVariants.{Nowhere}
use Rattle.outline.specs.code.Checks.{Verdict, refuse_if, first, if_taken}
use Rattle.outline.specs.code.Reading.{checks}
use Rattle.outline.specs.Corners.{corners}
use Rattle.outline.specs.Refusal.{refusal}
use Rattle.edit.specs.Removal.{without, smallest, no_such_corner, just_three}
use Rattle.edit.specs.code.Edit.{check_room}

-- 8, 2 and 9
abbrev pub own_checks : List Corner → ℕ → ℕ → List Verdict
own_checks cs k room =
    refuse_if (leb (length cs) k) (refusal (no_such_corner cs k) Nowhere)
    ∷ refuse_if (eqb (length cs) smallest) (refusal (just_three cs) Nowhere)
    ∷ check_room (without k cs) room
    ∷ []

-- all checks, in the order of the conditions
abbrev pub removal_checks : List ℤ → ℕ → ℕ → List Verdict
removal_checks s k room = checks None s ++ own_checks (corners s) k room

-- what the first that refuses answers
unfoldable pub check_removal : List ℤ → ℕ → ℕ → Verdict
check_removal s k room = first (removal_checks s k room)

-- what the call answers
abbrev pub removal_verdict : List ℤ → ℕ → List ℤ → Verdict
removal_verdict s k out = check_removal s k (length out)

-- what the list to write holds after the call: what remains, or what it held where the call is refused
abbrev pub list_after : List ℤ → ℕ → List ℤ → List ℤ
list_after s k out = if_taken (removal_verdict s k out) (coordinates (without k (corners s))) out
