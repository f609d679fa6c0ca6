-- A check for each condition of rule 2.8, in their order. `whose` is the side that a refusal names.
-- `proofs/CallLaws.antt` shows that the checks decide the conditions.
use Rattle.outline.specs.declared.Side.{Side}
use Rattle.std.specs.Prelude.{ℕ, ◌%◌, Bool, not, ◌&&◌, ◌||◌, List, [], ◌∷◌, ◌++◌, eqb, ℤ, pos, length, Option, Some}
use Rattle.std.specs.Int.Signed.{lt_z, le_z}
use Rattle.integers.specs.Equal.{eq_z}
use Rattle.outline.specs.declared.Place.TheVariants.{Nowhere, At}
use Rattle.outline.specs.declared.Side.TheVariants.{A, B}
use Rattle.outline.specs.Corners.{most}
use Rattle.outline.specs.Refusal.{refusal}
use Rattle.outline.specs.code.Checks.{Verdict, refuse_if}
use Rattle.outline.specs.code.Either.{either_checks}
use Rattle.records.specs.Chain.{records, Walk, walk, chain_list}
use Rattle.records.specs.Conditions.{partial_record, too_long, no_such_record}

-- 10
abbrev pub check_partial_record : List ℤ → Verdict
check_partial_record s = refuse_if (not (eqb (length s % 3) 0)) (refusal (partial_record s) Nowhere)

-- 11, tested
abbrev pub is_too_long : Walk → Bool
is_too_long w = eqb (length w.corners) most && not (eq_z w.index (pos 0))

-- 12, tested
abbrev pub is_no_such_record : ℕ → Walk → Bool
is_no_such_record n w = not (eq_z w.index (pos 0)) && (lt_z w.index (pos 0) || le_z (pos n) w.index)

module _ (whose : Option Side) where
  -- 11
  abbrev pub check_too_long : Walk → Verdict
  check_too_long w = refuse_if (is_too_long w) (refusal (too_long whose w) (At (length w.corners)))

  -- 12
  abbrev pub check_no_such_record : ℕ → Walk → Verdict
  check_no_such_record n w = refuse_if (is_no_such_record n w) (refusal (no_such_record whose n w) (At (length w.corners)))

  -- the checks of its indexes
  abbrev pub index_checks : List ℤ → ℤ → List Verdict
  index_checks s start = check_too_long (walk s start) ∷ check_no_such_record (length (records s)) (walk s start) ∷ []

  -- all checks of a chain
  abbrev pub chain_checks : List ℤ → ℤ → List Verdict
  chain_checks s start = index_checks s start ++ either_checks whose (chain_list s start)

-- all checks, in the order of the conditions
abbrev pub records_checks : List ℤ → ℤ → ℤ → List Verdict
records_checks s a b = check_partial_record s ∷ (chain_checks (Some A) s a ++ chain_checks (Some B) s b)
