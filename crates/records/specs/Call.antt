-- Rule 7.8: what the call gives that compares the outlines of two chains of a store s, which start at a for A and at b
-- for B.
use Rattle.hausdorff.specs.declared.Report.{Report}
use Rattle.std.specs.Prelude.{ℕ, ◌%◌, ◌≡◌, List, ℤ, length, Result, Err}
use Rattle.outline.specs.declared.Refusal.{Refusal}
use Rattle.outline.specs.Refusal.{FirstFault}
use Rattle.hausdorff.specs.Call.{IsComparison}
use Rattle.records.specs.Chain.{Ends, chain_list}
use Rattle.records.specs.Conditions.{records_conditions}

-- `result` is what the call gives
pub data IsRecordsComparison (s : List ℤ) (a b : ℤ) (allowance : ℕ) (result : Result Report Refusal) : Type 0 where
  -- the refusal of the first condition that applies
  refused : (r : Refusal) → FirstFault (records_conditions s a b) r → result ≡ Err r
      → IsRecordsComparison s a b allowance result
  -- where the store has whole records and both chains end, what comparing gives for their corners in the order of the
  -- chains. Where both cases apply they say the same: 10, 11 and 12 do not apply, and the conditions left are those of
  -- comparing (`records_comparison-unique` in `proofs/CallLaws.antt`)
  compared : length s % 3 ≡ 0 → Ends s a → Ends s b → IsComparison (chain_list s a) (chain_list s b) allowance result
      → IsRecordsComparison s a b allowance result
