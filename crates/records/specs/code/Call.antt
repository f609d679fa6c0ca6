-- The call that compares the outlines of two chains, computed: `proofs/CallLaws.antt` shows that this is what
-- `IsRecordsComparison` says and nothing else.
use Rattle.outline.specs.declared.Refusal.{Refusal}
use Rattle.hausdorff.specs.declared.Report.{Report}
use Rattle.outline.specs.declared.Orientation.{Orientation}
use Rattle.std.specs.Prelude.{ℕ, List, ℤ, Result}
use Rattle.outline.specs.code.Checks.{first}
use Rattle.hausdorff.specs.code.Call.{pair_verdict_for, comparison_for}
use Rattle.records.specs.Chain.{chain_list}
use Rattle.records.specs.code.Checks.{records_checks}

-- what the checks find: the first refusal, or the orientations of the chains
unfoldable pub check_records : List ℤ → ℤ → ℤ → Result (Orientation × Orientation) Refusal
check_records s a b = pair_verdict_for (chain_list s a) (chain_list s b) (first (records_checks s a b))

-- what the call gives
abbrev pub records_comparison : List ℤ → ℤ → ℤ → ℕ → Result Report Refusal
records_comparison s a b allowance = comparison_for (chain_list s a) (chain_list s b) allowance (check_records s a b)
