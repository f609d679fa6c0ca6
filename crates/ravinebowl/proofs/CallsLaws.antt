-- What the calls return and leave in a result list, by its length and by what the wrapped call answers.
--     length-wrong, length-right    the result list has the wrong length, or the right one
--     compare-wrong, records-wrong, nearest-wrong, mismatch-wrong, hull-wrong    the wrong one, of each call
--     compare-right, records-right, nearest-right, mismatch-right, hull-right    the right one
--     lists-kept, lists-written     the lists for corners and marks, of the convex hull
--     answered-alike                comparing chains is answered as comparing the lists of their corners
-- Where the code is not that of an answer, no list was written:
--     NotAnswered, compare-kept, records-kept, nearest-kept, mismatch-kept, removal-kept, insertion-kept, hull-kept
-- The code of a refusal is neither that of an answer nor that of a wrong length:
--     CodeApart, compare-code, records-code, nearest-code, removal-code, insertion-code, mismatch-code, hull-code
-- So the functions that edit answer exactly where the calls take, and undo each other:
--     removal-answered, insertion-answered, answered-insert, answered-remove
use Prim.Native.Nat.{ℕ, ◌<◌}
use mathlib.Core.Path.{◌≡◌, refl, ap}
use mathlib.Core.Bool.{Bool, true, false, cond}
use mathlib.Core.Logic.{◌≢◌, ◌↔◌}
use mathlib.Core.List.{List}
use native.Mathlib.Omega.{arith}
use borrow.Author.Tests.{eq-eqb, ne_eqb}
use lib.Dec.{eqb}
use lib.IntN.{ℤ}
use lib.ListN.{length}
use Rattle.std.specs.Prelude.{Result, Ok, Err}
use Rattle.hausdorff.specs.declared.Report.{Report}
use Rattle.nearest.specs.declared.NearestPoint.{NearestPoint}
use Rattle.plane.specs.declared.Corner.{Corner}
use Rattle.outline.specs.declared.Refusal.{Refusal}
use Rattle.outline.specs.code.Checks.{Verdict, if_taken}
use Rattle.outline.specs.Corners.{corners, corner}
use Rattle.outline.proofs.ChecksLaws.{taken≢refused}
use Rattle.edit.specs.Removal.{removal_conditions}
use Rattle.edit.specs.code.Removal.{removal_verdict, list_after}
use Rattle.edit.proofs.Removal.{removal-refused}
use Rattle.edit.specs.Insertion.{insertion_conditions}
use Rattle.edit.specs.code.Insertion.{insertion_verdict, insertion_list}
use Rattle.edit.proofs.Insertion.{insertion-refused}
use Rattle.edit.proofs.RoundTrip.{remove-insert, insert-remove}
use Rattle.hull.specs.Call.{hull_conditions}
use Rattle.hull.specs.code.Call.{check_hull, answer_for, hull_answer, hull_list, hull_marks}
use Rattle.hull.proofs.CallLaws.{hull-refuses}
use Rattle.nearest.specs.Call.{nearest_conditions}
use Rattle.nearest.specs.code.Call.{nearest_answer}
use Rattle.nearest.proofs.CallLaws.{nearest-refuses}
use Rattle.hausdorff.specs.Call.{pair_conditions}
use Rattle.hausdorff.specs.code.Call.{comparison}
use Rattle.hausdorff.proofs.CallLaws.{compare-refuses}
use Rattle.mismatch.specs.code.Call.{mismatch_answer}
use Rattle.mismatch.proofs.CallLaws.{mismatch-refuses}
use Rattle.encoding.specs.declared.status.Status.{Status}
use Rattle.encoding.specs.Status.{answered, wrong_result_length, refused_status}
use Rattle.encoding.proofs.StatusLaws.{refused-code}
use Rattle.records.specs.Conditions.{records_conditions}
use Rattle.records.specs.code.Call.{records_comparison}
use Rattle.records.proofs.CallLaws.{records-refuses}
use Rattle.ravinebowl.specs.Calls.{status_for, list_for}
use Rattle.ravinebowl.specs.Calls.{compare_length, status_of_comparison, list_of_comparison, compare_status, compare_list}
use Rattle.ravinebowl.specs.Calls.{compare_records_status, compare_records_list}
use Rattle.ravinebowl.specs.Calls.{nearest_length, status_of_nearest, list_of_nearest, nearest_status, nearest_list}
use Rattle.ravinebowl.specs.Calls.{mismatch_length, status_of_mismatch, list_of_mismatch, mismatch_status, mismatch_list}
use Rattle.ravinebowl.specs.Calls.{status_of_verdict, removal_status, insertion_status}
use Rattle.ravinebowl.specs.Calls.{convex_hull_length, status_of_hull, result_of_hull, convex_hull_status, convex_hull_list}
use Rattle.ravinebowl.specs.Calls.{convex_hull_marks, convex_hull_result}

abbrev pub NotAnswered : Status → Type 0
NotAnswered status = status.code ≢ answered.code

-- a call whose result list must have a length, by that and by what it answers
module _ {X : Type 0} (long : ℕ) (status_of : X → Status) (list_of : X → List ℤ → List ℤ) (answer : X) (result : List ℤ) where
  pub length-wrong : length result ≢ long
      → (status_for long status_of answer result ≡ wrong_result_length) × (list_for long list_of answer result ≡ result)
  length-wrong other = let test = ne_eqb (length result) long other in (rw test, rw test)

  pub length-right : length result ≡ long → {x : X} → answer ≡ x
      → (status_for long status_of answer result ≡ status_of x) × (list_for long list_of answer result ≡ list_of x result)
  length-right same is = let test = eq-eqb (length result) long same in (rw (test, is), rw (test, is))

  -- where what is no answer leaves the list as it was, so does the call
  length-kept : ((x : X) → NotAnswered (status_of x) → list_of x result ≡ result)
      → NotAnswered (status_for long status_of answer result) → list_for long list_of answer result ≡ result
  length-kept by_answer = go (eqb (length result) long)
    where
      go : (right : Bool) → NotAnswered (cond right (status_of answer) wrong_result_length)
          → cond right (list_of answer result) result ≡ result
      go true not = by_answer answer not
      go false not = refl

-- so each call, by the length of its result list
pub compare-wrong : (s t : List ℤ) (allowance : ℕ) (result : List ℤ) → length result ≢ compare_length
    → (compare_status s t allowance result ≡ wrong_result_length)
    × (compare_list s t allowance result ≡ result)
unfolding compare_status compare_list
compare-wrong s t allowance result =
    length-wrong compare_length status_of_comparison list_of_comparison (comparison s t allowance) result

pub compare-right : (s t : List ℤ) (allowance : ℕ) (result : List ℤ) → length result ≡ compare_length
    → {answer : Result Report Refusal} → comparison s t allowance ≡ answer
    → (compare_status s t allowance result ≡ status_of_comparison answer)
    × (compare_list s t allowance result ≡ list_of_comparison answer result)
unfolding compare_status compare_list
compare-right s t allowance result =
    length-right compare_length status_of_comparison list_of_comparison (comparison s t allowance) result

pub records-wrong : (s : List ℤ) (a b : ℤ) (allowance : ℕ) (result : List ℤ) → length result ≢ compare_length
    → (compare_records_status s a b allowance result ≡ wrong_result_length)
    × (compare_records_list s a b allowance result ≡ result)
unfolding compare_records_status compare_records_list
records-wrong s a b allowance result =
    length-wrong compare_length status_of_comparison list_of_comparison (records_comparison s a b allowance) result

pub records-right : (s : List ℤ) (a b : ℤ) (allowance : ℕ) (result : List ℤ) → length result ≡ compare_length
    → {answer : Result Report Refusal} → records_comparison s a b allowance ≡ answer
    → (compare_records_status s a b allowance result ≡ status_of_comparison answer)
    × (compare_records_list s a b allowance result ≡ list_of_comparison answer result)
unfolding compare_records_status compare_records_list
records-right s a b allowance result =
    length-right compare_length status_of_comparison list_of_comparison (records_comparison s a b allowance) result

pub nearest-wrong : (x y : ℤ) (s : List ℤ) (result : List ℤ) → length result ≢ nearest_length
    → (nearest_status x y s result ≡ wrong_result_length)
    × (nearest_list x y s result ≡ result)
unfolding nearest_status nearest_list
nearest-wrong x y s result =
    length-wrong nearest_length status_of_nearest list_of_nearest (nearest_answer (record { x = x; y = y }) s) result

pub nearest-right : (x y : ℤ) (s : List ℤ) (result : List ℤ) → length result ≡ nearest_length
    → {answer : Result NearestPoint Refusal} → nearest_answer (record { x = x; y = y }) s ≡ answer
    → (nearest_status x y s result ≡ status_of_nearest answer)
    × (nearest_list x y s result ≡ list_of_nearest answer result)
unfolding nearest_status nearest_list
nearest-right x y s result =
    length-right nearest_length status_of_nearest list_of_nearest (nearest_answer (record { x = x; y = y }) s) result

pub mismatch-wrong : (s t : List ℤ) (result : List ℤ) → length result ≢ mismatch_length
    → (mismatch_status s t result ≡ wrong_result_length)
    × (mismatch_list s t result ≡ result)
unfolding mismatch_status mismatch_list
mismatch-wrong s t result =
    length-wrong mismatch_length status_of_mismatch list_of_mismatch (mismatch_answer s t) result

pub mismatch-right : (s t : List ℤ) (result : List ℤ) → length result ≡ mismatch_length
    → {answer : Result ℕ Refusal} → mismatch_answer s t ≡ answer
    → (mismatch_status s t result ≡ status_of_mismatch answer)
    × (mismatch_list s t result ≡ list_of_mismatch answer result)
unfolding mismatch_status mismatch_list
mismatch-right s t result =
    length-right mismatch_length status_of_mismatch list_of_mismatch (mismatch_answer s t) result

pub hull-wrong : (s out marks : List ℤ) (result : List ℤ) → length result ≢ convex_hull_length
    → (convex_hull_status s out marks result ≡ wrong_result_length)
    × (convex_hull_result s out marks result ≡ result)
unfolding convex_hull_status convex_hull_result
hull-wrong s out marks result =
    length-wrong convex_hull_length status_of_hull result_of_hull (hull_answer s out marks) result

pub hull-right : (s out marks : List ℤ) (result : List ℤ) → length result ≡ convex_hull_length
    → {answer : Result ℕ Refusal} → hull_answer s out marks ≡ answer
    → (convex_hull_status s out marks result ≡ status_of_hull answer)
    × (convex_hull_result s out marks result ≡ result_of_hull answer result)
unfolding convex_hull_status convex_hull_result
hull-right s out marks result =
    length-right convex_hull_length status_of_hull result_of_hull (hull_answer s out marks) result

-- the lists for the corners of a hull and for the marks, by the length of the result list
module _ (s out marks result : List ℤ) where
  pub lists-kept : length result ≢ convex_hull_length
      → (convex_hull_list s out marks result ≡ out) × (convex_hull_marks s out marks result ≡ marks)
  unfolding convex_hull_list convex_hull_marks
  lists-kept other = let test = ne_eqb (length result) convex_hull_length other in (rw test, rw test)

  pub lists-written : length result ≡ convex_hull_length
      → (convex_hull_list s out marks result ≡ hull_list s out marks) × (convex_hull_marks s out marks result ≡ hull_marks s out marks)
  unfolding convex_hull_list convex_hull_marks
  lists-written same = let test = eq-eqb (length result) convex_hull_length same in (rw test, rw test)

-- two chains and two lists that are compared alike are answered alike
pub answered-alike : (p q s : List ℤ) (a b : ℤ) (allowance : ℕ) (result : List ℤ)
    → comparison p q allowance ≡ records_comparison s a b allowance
    → (compare_status p q allowance result ≡ compare_records_status s a b allowance result)
    × (compare_list p q allowance result ≡ compare_records_list s a b allowance result)
unfolding compare_status compare_list compare_records_status compare_records_list
answered-alike p q s a b allowance result same = (rw same, rw same)

-- a comparison that is refused leaves the list as it was
comparison-kept : (result : List ℤ) (answer : Result Report Refusal) → NotAnswered (status_of_comparison answer)
    → list_of_comparison answer result ≡ result
comparison-kept result (Err r) not = refl
comparison-kept result (Ok q) not = absurd (not refl)

pub compare-kept : (s t : List ℤ) (allowance : ℕ) (result : List ℤ) → NotAnswered (compare_status s t allowance result)
    → compare_list s t allowance result ≡ result
unfolding compare_status compare_list
compare-kept s t allowance result =
    length-kept compare_length status_of_comparison list_of_comparison (comparison s t allowance) result (comparison-kept result)

pub records-kept : (s : List ℤ) (a b : ℤ) (allowance : ℕ) (result : List ℤ)
    → NotAnswered (compare_records_status s a b allowance result) → compare_records_list s a b allowance result ≡ result
unfolding compare_records_status compare_records_list
records-kept s a b allowance result =
    length-kept compare_length status_of_comparison list_of_comparison (records_comparison s a b allowance) result
    (comparison-kept result)

pub nearest-kept : (x y : ℤ) (s result : List ℤ) → NotAnswered (nearest_status x y s result) → nearest_list x y s result ≡ result
unfolding nearest_status nearest_list
nearest-kept x y s result =
    length-kept nearest_length status_of_nearest list_of_nearest (nearest_answer (record { x = x; y = y }) s) result by_answer
  where
    by_answer : (answer : Result NearestPoint Refusal) → NotAnswered (status_of_nearest answer) → list_of_nearest answer result ≡ result
    by_answer (Err r) not = refl
    by_answer (Ok a) not = absurd (not refl)

pub mismatch-kept : (s t result : List ℤ) → NotAnswered (mismatch_status s t result) → mismatch_list s t result ≡ result
unfolding mismatch_status mismatch_list
mismatch-kept s t result =
    length-kept mismatch_length status_of_mismatch list_of_mismatch (mismatch_answer s t) result by_answer
  where
    by_answer : (answer : Result ℕ Refusal) → NotAnswered (status_of_mismatch answer) → list_of_mismatch answer result ≡ result
    by_answer (Err r) not = refl
    by_answer (Ok m) not = absurd (not refl)

-- a call whose list is written where its verdict is Ok
verdict-kept : (v : Verdict) (written out : List ℤ) → NotAnswered (status_of_verdict v) → if_taken v written out ≡ out
verdict-kept (Ok _) written out not = absurd (not refl)
verdict-kept (Err r) written out not = refl

pub removal-kept : (s : List ℤ) (k : ℕ) (out : List ℤ) → NotAnswered (removal_status s k out) → list_after s k out ≡ out
removal-kept s k out = verdict-kept (removal_verdict s k out) _ out

pub insertion-kept : (s : List ℤ) (k : ℕ) (v : Corner) (out : List ℤ) → NotAnswered (insertion_status s k v out)
    → insertion_list s k v out ≡ out
insertion-kept s k v out = verdict-kept (insertion_verdict s k v out) _ out

-- of the convex hull none of the three
pub hull-kept : (s out marks result : List ℤ) → NotAnswered (convex_hull_status s out marks result)
    → (convex_hull_list s out marks result ≡ out) × ((convex_hull_marks s out marks result ≡ marks)
    × (convex_hull_result s out marks result ≡ result))
unfolding convex_hull_status convex_hull_list convex_hull_marks convex_hull_result
hull-kept s out marks result not = go (eqb (length result) convex_hull_length) (check_hull s (length out) (length marks)) refl not
  where
    go : (right : Bool) (v : Verdict) → check_hull s (length out) (length marks) ≡ v
        → NotAnswered (cond right (status_of_hull (answer_for s (check_hull s (length out) (length marks)))) wrong_result_length)
        → (cond right (hull_list s out marks) out ≡ out) × ((cond right (hull_marks s out marks) marks ≡ marks)
        × (cond right (result_of_hull (hull_answer s out marks) result) result ≡ result))
    go false v is not = (refl, (refl, refl))
    go true (Ok _) is not = absurd (not (rw is))
    go true (Err r) is not = (rw is, (rw is, rw is))

-- a refusal's code is neither that of an answer nor that of a wrong length
abbrev pub CodeApart : Refusal → Type 0
CodeApart r = (answered.code < (refused_status r).code) × ((refused_status r).code < wrong_result_length.code)

pub compare-code : (s t : List ℤ) (allowance : ℕ) (r : Refusal) → comparison s t allowance ≡ Err r → CodeApart r
compare-code s t allowance r is = refused-code (pair_conditions s t) r refl ((compare-refuses s t allowance r).0 is)

pub records-code : (s : List ℤ) (a b : ℤ) (allowance : ℕ) (r : Refusal) → records_comparison s a b allowance ≡ Err r
    → CodeApart r
records-code s a b allowance r is =
    refused-code (records_conditions s a b) r refl ((records-refuses s a b allowance r).0 is)

pub nearest-code : (v : Corner) (s : List ℤ) (r : Refusal) → nearest_answer v s ≡ Err r → CodeApart r
nearest-code v s r is = refused-code (nearest_conditions v s) r refl ((nearest-refuses v s r).0 is)

pub removal-code : (s : List ℤ) (k : ℕ) (out : List ℤ) (r : Refusal) → removal_verdict s k out ≡ Err r
    → CodeApart r
removal-code s k out r is =
    refused-code (removal_conditions s k (length out)) r refl ((removal-refused s k (length out) r).0 is)

pub insertion-code : (s : List ℤ) (k : ℕ) (v : Corner) (out : List ℤ) (r : Refusal)
    → insertion_verdict s k v out ≡ Err r → CodeApart r
insertion-code s k v out r is =
    refused-code (insertion_conditions s k v (length out)) r refl ((insertion-refused s k v (length out) r).0 is)

pub mismatch-code : (s t : List ℤ) (r : Refusal) → mismatch_answer s t ≡ Err r → CodeApart r
mismatch-code s t r is = refused-code (pair_conditions s t) r refl ((mismatch-refuses s t r).0 is)

pub hull-code : (s out marks : List ℤ) (r : Refusal) → hull_answer s out marks ≡ Err r → CodeApart r
hull-code s out marks r is =
    refused-code (hull_conditions s (length out) (length marks)) r refl ((hull-refuses s out marks r).0 is)

-- a call that edits answers exactly where its verdict is Ok
verdict-answered : (v : Verdict) → ((r : Refusal) → v ≡ Err r → CodeApart r)
    → (status_of_verdict v ≡ answered) ↔ (v ≡ Ok tt)
verdict-answered (Ok _) apart = (λ _. refl, λ _. refl)
verdict-answered (Err r) apart = (
  λ is. (let above = (apart r refl).0 in absurd (omega (arith, above, ap code is))),
  λ is. absurd (taken≢refused is refl),
)
  where
    code : Status → ℕ
    code status = status.code

pub removal-answered : (s : List ℤ) (k : ℕ) (out : List ℤ)
    → (removal_status s k out ≡ answered) ↔ (removal_verdict s k out ≡ Ok tt)
removal-answered s k out = verdict-answered (removal_verdict s k out) (removal-code s k out)

pub insertion-answered : (s : List ℤ) (k : ℕ) (v : Corner) (out : List ℤ)
    → (insertion_status s k v out ≡ answered) ↔ (insertion_verdict s k v out ≡ Ok tt)
insertion-answered s k v out = verdict-answered (insertion_verdict s k v out) (insertion-code s k v out)

-- so the C functions that edit undo each other, as the calls do
pub answered-insert : (s : List ℤ) (k : ℕ) (out back : List ℤ) → length back ≡ length s → removal_status s k out ≡ answered
    → (let v = corner (corners s) k in let rest = list_after s k out in
    (insertion_status rest k v back ≡ answered) × (insertion_list rest k v back ≡ s))
answered-insert s k out back long is =
    let (takes, old) = remove-insert s k out back long ((removal-answered s k out).0 is) in
    ((insertion-answered (list_after s k out) k (corner (corners s) k) back).1 takes, old)

pub answered-remove : (s : List ℤ) (k : ℕ) (v : Corner) (out back : List ℤ) → length back ≡ length s
    → insertion_status s k v out ≡ answered
    → (let more = insertion_list s k v out in (removal_status more k back ≡ answered) × (list_after more k back ≡ s))
answered-remove s k v out back long is =
    let (takes, old) = insert-remove s k v out back long ((insertion-answered s k v out).0 is) in
    ((removal-answered (insertion_list s k v out) k back).1 takes, old)
