-- The call that compares, computed: `proofs/CallLaws.antt` shows that this is what `IsComparison` says and nothing
-- else.
use Rattle.outline.specs.declared.Refusal.{Refusal}
use Rattle.std.specs.Prelude.{ℕ, List, ◌++◌, ℤ, Some, Result, Ok, Err}
use Rattle.outline.specs.declared.Orientation.{Orientation}
use Rattle.outline.specs.declared.Side.TheVariants.{A, B}
use Rattle.outline.specs.code.Checks.{Verdict, first}
use Rattle.outline.specs.code.Either.{orientation_of, either_checks}
use Rattle.outline.specs.Corners.{corners}
use Rattle.hausdorff.specs.declared.Report.{Report}
use Rattle.hausdorff.specs.Pair.{Pair, Orientations, both_orientations}
use Rattle.hausdorff.specs.Given.{given_report}
use Rattle.hausdorff.specs.Call.{held_pair}
use Rattle.hausdorff.specs.code.Report.{report}

-- all checks, in the order of the conditions
abbrev pub pair_checks : List ℤ → List ℤ → List Verdict
pair_checks s t = either_checks (Some A) s ++ either_checks (Some B) t

-- what the checks find, by what the first that refuses answers
abbrev pub pair_verdict_for : List ℤ → List ℤ → Verdict → Result (Orientation × Orientation) Refusal
pair_verdict_for s t (Ok _) = Ok (orientation_of (corners s), orientation_of (corners t))
pair_verdict_for s t (Err r) = Err r

-- what the checks find: the first refusal, or the orientations of the lists
unfoldable pub check_pair : List ℤ → List ℤ → Result (Orientation × Orientation) Refusal
check_pair s t = pair_verdict_for s t (first (pair_checks s t))

-- the orientations of the lists
abbrev pub orientations : List ℤ → List ℤ → Orientations
orientations s t = both_orientations (orientation_of (corners s)) (orientation_of (corners t))

-- the outlines as held
abbrev pub pair_of : List ℤ → List ℤ → Pair
pair_of s t = held_pair (orientation_of (corners s)) (orientation_of (corners t)) s t

-- what is reported of lists with the orientations o and q, by the lists as given
abbrev pub report_for : Orientation → Orientation → List ℤ → List ℤ → ℕ → Report
report_for o q s t allowance =
    given_report (held_pair o q s t) (both_orientations o q) (report (held_pair o q s t) (both_orientations o q) allowance)

-- what the call gives, by what they find
abbrev pub comparison_for : List ℤ → List ℤ → ℕ → Result (Orientation × Orientation) Refusal → Result Report Refusal
comparison_for s t allowance (Ok (o, q)) = Ok (report_for o q s t allowance)
comparison_for s t allowance (Err r) = Err r

-- what the call gives
abbrev pub comparison : List ℤ → List ℤ → ℕ → Result Report Refusal
comparison s t allowance = comparison_for s t allowance (check_pair s t)
