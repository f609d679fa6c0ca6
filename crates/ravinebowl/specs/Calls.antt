-- Rules 9.1 to 9.8 and 9.10 to 9.13: what each call returns, and what it leaves in the lists that it may write.
use Rattle.hausdorff.specs.declared.Report.{Report}
use Rattle.outline.specs.code.Checks.{Verdict}
use Rattle.outline.specs.declared.Refusal.{Refusal}
use Rattle.nearest.specs.declared.NearestPoint.{NearestPoint}
use Rattle.std.specs.Prelude.{ℕ, cond, List, eqb, ℤ, length, Result, Ok, Err}
use Rattle.plane.specs.declared.Corner.{Corner}
use Rattle.edit.specs.code.Removal.{removal_verdict}
use Rattle.edit.specs.code.Insertion.{insertion_verdict}
use Rattle.nearest.specs.code.Call.{nearest_answer}
use Rattle.hausdorff.specs.code.Call.{comparison}
use Rattle.mismatch.specs.code.Call.{mismatch_answer}
use Rattle.records.specs.code.Call.{records_comparison}
use Rattle.hull.specs.code.Call.{hull_answer, hull_list, hull_marks}
use Rattle.encoding.specs.declared.status.Status.{Status}
use Rattle.encoding.specs.Status.{answered, wrong_result_length, refused_status}
use Rattle.encoding.specs.Results.{of_nearest, of_report, of_number}

-- how long the result list of the nearest point must be (rule 9.4)
abbrev pub nearest_length : ℕ
nearest_length = 7

-- how long the result list of comparing must be (rules 9.5 and 9.11)
abbrev pub compare_length : ℕ
compare_length = 32

-- how long the result list of the mismatch sum must be (rule 9.10)
abbrev pub mismatch_length : ℕ
mismatch_length = 1

-- how long the result list of the convex hull must be (rule 9.13)
abbrev pub convex_hull_length : ℕ
convex_hull_length = 1

-- the status of a call whose result list must have a length, which is judged before anything else, by what it answers
abbrev pub status_for : {X : Type 0} → ℕ → (X → Status) → X → List ℤ → Status
status_for long status_of answer result = cond (eqb (length result) long) (status_of answer) wrong_result_length

-- what such a call leaves in the result list
abbrev pub list_for : {X : Type 0} → ℕ → (X → List ℤ → List ℤ) → X → List ℤ → List ℤ
list_for long list_of answer result = cond (eqb (length result) long) (list_of answer result) result

-- the status, by what comparing answers; being spent is no refusal
abbrev pub status_of_comparison : Result Report Refusal → Status
status_of_comparison (Err r) = refused_status r
status_of_comparison (Ok q) = answered

-- the result list after that, given what it held before; a refused call writes to no list (rule 9.8)
abbrev pub list_of_comparison : Result Report Refusal → List ℤ → List ℤ
list_of_comparison (Err r) before = before
list_of_comparison (Ok q) before = of_report q

-- the status that `ravinebowl_compare` returns
unfoldable pub compare_status : List ℤ → List ℤ → ℕ → List ℤ → Status
compare_status s t allowance result = status_for compare_length status_of_comparison (comparison s t allowance) result

-- what it leaves in the result list
unfoldable pub compare_list : List ℤ → List ℤ → ℕ → List ℤ → List ℤ
compare_list s t allowance result = list_for compare_length list_of_comparison (comparison s t allowance) result

-- the status that `ravinebowl_compare_records` returns
unfoldable pub compare_records_status : List ℤ → ℤ → ℤ → ℕ → List ℤ → Status
compare_records_status s a b allowance result =
    status_for compare_length status_of_comparison (records_comparison s a b allowance) result

-- what it leaves in the result list
unfoldable pub compare_records_list : List ℤ → ℤ → ℤ → ℕ → List ℤ → List ℤ
compare_records_list s a b allowance result =
    list_for compare_length list_of_comparison (records_comparison s a b allowance) result

-- the status, by what the call for the nearest point answers
abbrev pub status_of_nearest : Result NearestPoint Refusal → Status
status_of_nearest (Err r) = refused_status r
status_of_nearest (Ok a) = answered

-- the result list after that, given what it held before
abbrev pub list_of_nearest : Result NearestPoint Refusal → List ℤ → List ℤ
list_of_nearest (Err r) before = before
list_of_nearest (Ok a) before = of_nearest a

-- the status that `ravinebowl_nearest_point` returns
unfoldable pub nearest_status : ℤ → ℤ → List ℤ → List ℤ → Status
nearest_status x y s result = status_for nearest_length status_of_nearest (nearest_answer (record { x = x; y = y }) s) result

-- what it leaves in the result list
unfoldable pub nearest_list : ℤ → ℤ → List ℤ → List ℤ → List ℤ
nearest_list x y s result = list_for nearest_length list_of_nearest (nearest_answer (record { x = x; y = y }) s) result

-- the status, by what the call for the mismatch sum answers
abbrev pub status_of_mismatch : Result ℕ Refusal → Status
status_of_mismatch (Err r) = refused_status r
status_of_mismatch (Ok m) = answered

-- the result list after that, given what it held before
abbrev pub list_of_mismatch : Result ℕ Refusal → List ℤ → List ℤ
list_of_mismatch (Err r) before = before
list_of_mismatch (Ok m) before = of_number m

-- the status that `ravinebowl_mismatch` returns
unfoldable pub mismatch_status : List ℤ → List ℤ → List ℤ → Status
mismatch_status s t result = status_for mismatch_length status_of_mismatch (mismatch_answer s t) result

-- what it leaves in the result list
unfoldable pub mismatch_list : List ℤ → List ℤ → List ℤ → List ℤ
mismatch_list s t result = list_for mismatch_length list_of_mismatch (mismatch_answer s t) result

-- the status, by what removing or inserting a corner answers
abbrev pub status_of_verdict : Verdict → Status
status_of_verdict (Ok _) = answered
status_of_verdict (Err r) = refused_status r

-- the status that `ravinebowl_remove_corner` returns; its list is `list_after` of `edit/specs/code/Removal.antt`
abbrev pub removal_status : List ℤ → ℕ → List ℤ → Status
removal_status s k out = status_of_verdict (removal_verdict s k out)

-- the status that `ravinebowl_insert_corner` returns; its list is `insertion_list` of `edit/specs/code/Insertion.antt`
abbrev pub insertion_status : List ℤ → ℕ → Corner → List ℤ → Status
insertion_status s k v out = status_of_verdict (insertion_verdict s k v out)

-- the status, by what the call for the convex hull answers
abbrev pub status_of_hull : Result ℕ Refusal → Status
status_of_hull (Err r) = refused_status r
status_of_hull (Ok n) = answered

-- the result list after that, given what it held before
abbrev pub result_of_hull : Result ℕ Refusal → List ℤ → List ℤ
result_of_hull (Err r) before = before
result_of_hull (Ok n) before = of_number n

-- the status that `ravinebowl_convex_hull` returns
unfoldable pub convex_hull_status : List ℤ → List ℤ → List ℤ → List ℤ → Status
convex_hull_status s out marks result = status_for convex_hull_length status_of_hull (hull_answer s out marks) result

-- what it leaves in the result list
unfoldable pub convex_hull_result : List ℤ → List ℤ → List ℤ → List ℤ → List ℤ
convex_hull_result s out marks result = list_for convex_hull_length result_of_hull (hull_answer s out marks) result

-- what it leaves in the list for the corners. The call's answer and both its lists are what `IsHullAnswer` says
-- (`is-hull-answer` and `hull_answer-unique` in `hull/proofs/CallLaws.antt`); where it does not answer, all three lists are
-- as they were (`hull-kept`)
unfoldable pub convex_hull_list : List ℤ → List ℤ → List ℤ → List ℤ → List ℤ
convex_hull_list s out marks result = cond (eqb (length result) convex_hull_length) (hull_list s out marks) out

-- what it leaves in the list for the marks
unfoldable pub convex_hull_marks : List ℤ → List ℤ → List ℤ → List ℤ → List ℤ
convex_hull_marks s out marks result = cond (eqb (length result) convex_hull_length) (hull_marks s out marks) marks
