-- The list to write, and a call that edits an outline, by its verdict.
--     room-decides, room-right    9: the check decides its condition; where that does not apply the length is right
--     list-refused, list-taken    what it leaves in the list to write
--     Judges              the verdict refuses exactly with the refusal of the first condition that applies, and takes
--                         exactly where the edit is permitted, which asks for corners that are accepted
--     edit-accepted       so where it takes, what is written is an accepted outline
--     is-edit             what the call gives is what `IsEdit` says
--     edit-unique         and nothing else is
--     edit-promises       so it has all parts of the call's contract
use Prim.Native.Nat.{ℕ}
use mathlib.Core.Path.{◌≡◌, refl, sym, ◌∙◌}
use mathlib.Core.Logic.{◌↔◌}
use mathlib.Core.List.{List}
use lib.Dec.{eqb}
use lib.IntN.{ℤ}
use lib.ListN.{length}
use Rattle.std.specs.Prelude.{None, Ok, Err}
use Rattle.integers.proofs.Reflect.{test-not, test-eqb}
use Rattle.plane.specs.declared.Corner.{Corner}
use Rattle.plane.specs.Vector.{coordinates}
use Rattle.outline.specs.declared.Refusal.{Refusal}
use Rattle.outline.specs.code.Checks.{Verdict, if_taken}
use Rattle.outline.specs.Conditions.{AcceptedList}
use Rattle.outline.specs.Convex.{Accepted}
use Rattle.outline.specs.Refusal.{Condition, Applies, FirstFault}
use Rattle.outline.proofs.Acceptance.{coordinates-accepted}
use Rattle.outline.proofs.ConditionLaws.{Decides, test-decides, plain_stable}
use Rattle.edit.specs.Edit.{wrong_length, IsEdit, refused, edited}
use Rattle.edit.specs.code.Edit.{check_room}

module _ (cs : List Corner) (room : ℕ) where
  abbrev long : ℕ
  long = length (coordinates cs)

  pub room-decides : Decides (check_room cs room) (wrong_length cs room)
  room-decides = test-decides _ None _ (test-not (eqb room long) (test-eqb room long))

  pub room-right : ¬ Applies (wrong_length cs room) → room ≡ long
  room-right = plain_stable (eqb room long) (test-eqb room long)

module _ (written before : List ℤ) {verdict : Verdict} where
  pub list-refused : {r : Refusal} → verdict ≡ Err r → if_taken verdict written before ≡ before
  list-refused e = rw e

  pub list-taken : verdict ≡ Ok tt → if_taken verdict written before ≡ written
  list-taken e = rw e

-- the verdict is that of the conditions, and what is permitted gives accepted corners
pub record Judges (conditions : List Condition) (permitted : Type 0) (cs : List Corner) (verdict : Verdict) : Type 0 where
  pub refuses : (r : Refusal) → (verdict ≡ Err r) ↔ FirstFault conditions r
  pub takes : (verdict ≡ Ok tt) ↔ permitted
  pub accepts : permitted → Accepted cs

module _ {conditions : List Condition} {permitted : Type 0} {cs : List Corner} {verdict : Verdict}
    (judges : Judges conditions permitted cs verdict) where
  pub edit-accepted : verdict ≡ Ok tt → AcceptedList (coordinates cs)
  edit-accepted is = (coordinates-accepted cs).1 (judges.accepts (judges.takes.0 is))

  module _ (before : List ℤ) where
    -- what the list to write holds after the call
    abbrev list : List ℤ
    list = if_taken verdict (coordinates cs) before

    pub is-edit : IsEdit conditions permitted cs before verdict list
    is-edit = go verdict refl
      where
        go : (v : Verdict) → verdict ≡ v → IsEdit conditions permitted cs before verdict list
        go (Err r) is = refused r ((judges.refuses r).0 is) is (list-refused (coordinates cs) before is)
        go (Ok _) is =
            let written = list-taken (coordinates cs) before is in
            edited (judges.takes.0 is) (rw written (edit-accepted is)) is written

    pub edit-unique : {answer : Verdict} {after : List ℤ} → IsEdit conditions permitted cs before answer after
        → (answer ≡ verdict) × (after ≡ list)
    edit-unique (refused r fault is kept) =
        let refuses = (judges.refuses r).1 fault in
        (is ∙ sym refuses, kept ∙ sym (list-refused (coordinates cs) before refuses))
    edit-unique (edited may accepted is written) =
        let takes = judges.takes.1 may in
        (is ∙ sym takes, written ∙ sym (list-taken (coordinates cs) before takes))

    -- what has the two equations has all parts of the call's contract
    pub edit-promises : {answer : Verdict} {after : List ℤ} → answer ≡ verdict → after ≡ list
        → (answer ≡ verdict) × ((after ≡ list) × IsEdit conditions permitted cs before answer after)
    edit-promises is written = (is, (written, rw (is, written) is-edit))
