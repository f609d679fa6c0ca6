-- What accepting a list gives. For the code alone.
use Rattle.std.specs.Prelude.{◌≡◌, List, ℤ, Option, Result, Ok, Err}
use Rattle.outline.specs.declared.Side.{Side}
use Rattle.outline.specs.declared.Refusal.{Refusal}
use Rattle.outline.specs.Corners.{corners}
use Rattle.outline.specs.code.Either.{orientation_of, check_either}
use Rattle.reading.specs.declared.accepted.AcceptedOutline.{AcceptedOutline}

-- the checks take the list, and the outline is that list with the orientation of its first three corners
pub record Accepts (whose : Option Side) (s : List ℤ) (outline : AcceptedOutline) : Type 0 where
  pub taken : check_either whose s ≡ Ok tt
  pub numbers : outline.numbers.now ≡ s
  pub orientation : outline.orientation ≡ orientation_of (corners s)

-- `result` is what accepting the list s gives: such an outline, or the refusal of the checks
abbrev pub IsAcceptance : Option Side → List ℤ → Result AcceptedOutline Refusal → Type 0
IsAcceptance whose s (Ok outline) = Accepts whose s outline
IsAcceptance whose s (Err r) = check_either whose s ≡ Err r
