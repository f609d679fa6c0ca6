-- Rule 7.4: what the call gives that compares the outlines of two lists, s for A and t for B.
use Rattle.std.specs.Prelude.{ℕ, ◌≡◌, List, ◌++◌, ℤ, Some, Result, Ok, Err}
use Rattle.outline.specs.declared.Orientation.{Orientation}
use Rattle.outline.specs.declared.Refusal.{Refusal}
use Rattle.outline.specs.declared.Side.TheVariants.{A, B}
use Rattle.outline.specs.Conditions.{either_conditions}
use Rattle.outline.specs.Corners.{corners}
use Rattle.outline.specs.Orientation.{as_held, AcceptedAs}
use Rattle.outline.specs.Refusal.{Condition, FirstFault}
use Rattle.hausdorff.specs.declared.Report.{Report}
use Rattle.hausdorff.specs.Pair.{Pair, both, both_orientations}
use Rattle.hausdorff.specs.Law.{Law}
use Rattle.hausdorff.specs.Given.{given_report}

-- rule 2.6: 1 to 6 for A, then 1 to 6 for B
abbrev pub pair_conditions : List ℤ → List ℤ → List Condition
pair_conditions s t = either_conditions (Some A) s ++ either_conditions (Some B) t

-- the two outlines as held, where the lists have the orientations o and q
abbrev pub held_pair : Orientation → Orientation → List ℤ → List ℤ → Pair
held_pair o q s t = both (as_held o (corners s)) (as_held q (corners t))

-- `result` is what the call gives
pub data IsComparison (s t : List ℤ) (allowance : ℕ) (result : Result Report Refusal) : Type 0 where
  -- the refusal of the first condition that applies
  refused : (r : Refusal) → FirstFault (pair_conditions s t) r → result ≡ Err r → IsComparison s t allowance result
  -- otherwise both are accepted, each with its orientation; a report of the outlines as held obeys the law, and is given
  -- with corners and edges named by the lists as given. Being spent is no refusal
  reported : (o q : Orientation) (r : Report) → AcceptedAs o s → AcceptedAs q t
      → Law (held_pair o q s t) (both_orientations o q) allowance r
      → result ≡ Ok (given_report (held_pair o q s t) (both_orientations o q) r) → IsComparison s t allowance result
