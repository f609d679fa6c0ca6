-- Rule 7.7: what the call gives for the mismatch sum of the outlines of two lists, s for A and t for B.
use Rattle.std.specs.Prelude.{ℕ, ◌≡◌, List, ℤ, Result, Ok, Err}
use Rattle.outline.specs.declared.Orientation.{Orientation}
use Rattle.outline.specs.declared.Refusal.{Refusal}
use Rattle.outline.specs.Orientation.{AcceptedAs}
use Rattle.outline.specs.Refusal.{FirstFault}
use Rattle.hausdorff.specs.Call.{pair_conditions, held_pair}
use Rattle.mismatch.specs.MismatchSum.{IsMismatchSum}

-- `result` is what the call gives
pub data IsMismatchAnswer (s t : List ℤ) (result : Result ℕ Refusal) : Type 0 where
  -- the refusal of the first condition that applies, of those of comparing
  refused : (r : Refusal) → FirstFault (pair_conditions s t) r → result ≡ Err r → IsMismatchAnswer s t result
  -- otherwise both are accepted, each with its orientation, and the result is the mismatch sum of the outlines as held
  summed : (o q : Orientation) (m : ℕ) → AcceptedAs o s → AcceptedAs q t → IsMismatchSum (held_pair o q s t) m
      → result ≡ Ok m → IsMismatchAnswer s t result
