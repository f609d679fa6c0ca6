-- Rule 7.2: what the call gives that reads an outline of either orientation.
use Rattle.outline.specs.declared.Side.{Side}
use Rattle.std.specs.Prelude.{◌≡◌, List, ℤ, Option, Result, Ok, Err}
use Rattle.outline.specs.declared.EitherReading.{EitherReading}
use Rattle.outline.specs.declared.Orientation.{Orientation}
use Rattle.outline.specs.declared.Refusal.{Refusal}
use Rattle.outline.specs.Conditions.{either_conditions}
use Rattle.outline.specs.Corners.{corners, held}
use Rattle.outline.specs.Orientation.{as_held, AcceptedAs}
use Rattle.outline.specs.Refusal.{FirstFault}

-- `result` is what the default reading of the list s gives
pub data IsEitherReading (whose : Option Side) (s : List ℤ) (result : Result EitherReading Refusal) : Type 0 where
  -- the refusal of the first of 1 to 6 that applies
  refused : (r : Refusal) → FirstFault (either_conditions whose s) r → result ≡ Err r → IsEitherReading whose s result
  -- otherwise the list is accepted with one orientation, and its corners are held as rule 1.9 says
  taken : (o : Orientation) → AcceptedAs o s
      → result ≡ Ok (record { outline = held (as_held o (corners s)); orientation = o })
      → IsEitherReading whose s result
