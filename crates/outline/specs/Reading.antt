-- Rule 7.2: what the call gives that reads an outline strictly.
use Rattle.outline.specs.declared.Side.{Side}
use Rattle.std.specs.Prelude.{◌≡◌, List, ℤ, Option, Result, Ok, Err}
use Rattle.outline.specs.declared.Outline.{Outline}
use Rattle.outline.specs.declared.Refusal.{Refusal}
use Rattle.outline.specs.Conditions.{reading_conditions, AcceptedList}
use Rattle.outline.specs.Corners.{corners, held}
use Rattle.outline.specs.Refusal.{FirstFault}

-- `result` is what the strict reading of the list s gives
pub data IsReading (whose : Option Side) (s : List ℤ) (result : Result Outline Refusal) : Type 0 where
  -- the refusal of the first of 1 to 6 that applies
  refused : (r : Refusal) → FirstFault (reading_conditions whose s) r → result ≡ Err r → IsReading whose s result
  -- otherwise the list is accepted, and its corners are held
  taken : AcceptedList s → result ≡ Ok (held (corners s)) → IsReading whose s result
