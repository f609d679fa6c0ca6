-- Laws of inserting a corner.
--     Placed, placing-taken    the checks of 8, 7, 3 and 9 take exactly where none of these applies
--     insertion-refused   the call is refused exactly where a condition applies, with the refusal of the first that does
--     insertion-taken     it is taken exactly where the insertion is permitted (`PermittedInsertion`)
--     insertion-able      where it is taken the corners of the result can be written
--     insertion-accepted  and what is written is an accepted outline
--     is-insertion        what the call gives is as rule 7.9 lays down
--     insertion-unique    and nothing else is
--     insertion-promises  so it has all parts of the call's contract
use Prim.Native.Nat.{ℕ, ◌≤◌, ◌<◌}
use mathlib.Core.Path.{◌≡◌, refl}
use mathlib.Core.Logic.Iff
use mathlib.Core.Logic.{◌≢◌, ◌↔◌}
use mathlib.Core.List.{List, ◌++◌}
use native.Mathlib.Omega.{arith}
use lib.IntN.{ℤ}
use lib.ListN.{length}
use Rattle.std.specs.Prelude.{None, Ok, Err}
use Rattle.integers.proofs.Reflect.{test-eqb, test-ltb}
use Rattle.plane.specs.declared.Corner.{Corner}
use Rattle.plane.specs.Range.{InRange}
use Rattle.plane.specs.Vector.{coordinates}
use Rattle.outline.specs.code.Checks.{Verdict}
use Rattle.outline.specs.declared.Place.TheVariants.{Nowhere}
use Rattle.outline.specs.declared.Refusal.{Refusal}
use Rattle.outline.specs.Conditions.{reading_conditions, AcceptedList}
use Rattle.outline.specs.Corners.{corners, fewest, most}
use Rattle.outline.specs.code.Reading.{checks}
use Rattle.outline.specs.Refusal.{Condition, FirstFault}
use Rattle.outline.proofs.Acceptance.{checks-decide, none-accepted, point-decides, point-in-range}
use Rattle.outline.proofs.Acceptance.{shape-decide, shape-none}
use Rattle.outline.proofs.ConditionLaws.{◌and◌, AllDecide, first-refused, first_taken}
use Rattle.outline.proofs.ConditionLaws.{NoneApplies, decide-append, none-append, nowhere-plain, test-decides}
use Rattle.edit.specs.Insertion.{inserted, placing_conditions, result_conditions, insertion_conditions}
use Rattle.edit.specs.Insertion.{PermittedInsertion, IsInsertion}
use Rattle.edit.specs.code.Insertion.{placing_checks, check_placing, result_checks, insertion_checks}
use Rattle.edit.specs.code.Insertion.{check_insertion, insertion_verdict, insertion_list}
use Rattle.edit.specs.code.Writing.{Insertable}
use Rattle.edit.proofs.EditLaws.{room-decides, room-right, Judges, edit-accepted, is-edit, edit-unique, edit-promises}
use Rattle.edit.proofs.Inserted.{length_inserted, inserted-at, inserted-in-range}

-- ---- 8, 7, 3 and 9
-- none of them applies: the place is not past the count, the point is in range, there are not 256 corners, and the list
-- to write is just as long as the result
pub record Placed (cs : List Corner) (k : ℕ) (v : Corner) (room : ℕ) : Type 0 where
  pub known : k ≤ length cs
  pub all_in_range : InRange v
  pub fewer : length cs ≢ most
  pub long : room ≡ length (coordinates (inserted k v cs))

module _ (cs : List Corner) (k : ℕ) (v : Corner) (room : ℕ) where
  placing-decide : AllDecide (placing_checks cs k v room) (placing_conditions cs k v room)
  placing-decide =
      test-decides _ None _ (test-ltb (length cs) k)
      and point-decides v
      and test-decides _ None _ (test-eqb (length cs) most)
      and room-decides (inserted k v cs) room
      and tt

  placing-none : NoneApplies (placing_conditions cs k v room) ↔ Placed cs k v room
  placing-none = (there, back)
    where
      there : NoneApplies (placing_conditions cs k v room) → Placed cs k v room
      there (not-past, (not-out, (not_full, (not-other, _)))) =
          let reached : ¬ (length cs < k) = λ past. not-past (Nowhere, (refl, past)) in record {
            known = omega arith;
            all_in_range = point-in-range v not-out;
            fewer = λ is. not_full (Nowhere, (refl, is));
            long = room-right (inserted k v cs) room not-other;
          }

      back : Placed cs k v room → NoneApplies (placing_conditions cs k v room)
      back h =
          nowhere-plain (λ past. omega (arith, h.known))
          and nowhere-plain (λ out. out h.all_in_range)
          and nowhere-plain h.fewer
          and nowhere-plain (λ other. other h.long)
          and tt

  pub placing-taken : (check_placing cs k v room ≡ Ok tt) ↔ Placed cs k v room
  unfolding check_placing
  placing-taken =
      Iff.trans (first_taken (placing_checks cs k v room) (placing_conditions cs k v room) placing-decide) placing-none

-- ---- all checks
module _ (s : List ℤ) (k : ℕ) (v : Corner) (room : ℕ) where
  abbrev cs : List Corner
  cs = corners s

  abbrev result : List Corner
  result = inserted k v cs

  -- those after reading
  abbrev later_checks : List Verdict
  later_checks = placing_checks cs k v room ++ result_checks result

  abbrev later_conditions : List Condition
  later_conditions = placing_conditions cs k v room ++ result_conditions result

  decide : AllDecide (insertion_checks s k v room) (insertion_conditions s k v room)
  decide =
      decide-append (checks None s) later_checks (reading_conditions None s) later_conditions (checks-decide None s)
      (decide-append (placing_checks cs k v room) (result_checks result) (placing_conditions cs k v room)
      (result_conditions result) (placing-decide cs k v room) (shape-decide result None))

  pub insertion-refused : (r : Refusal)
      → (check_insertion s k v room ≡ Err r) ↔ FirstFault (insertion_conditions s k v room) r
  unfolding check_insertion
  insertion-refused = first-refused (insertion_checks s k v room) (insertion_conditions s k v room) decide

  pub insertion-taken : (check_insertion s k v room ≡ Ok tt) ↔ PermittedInsertion s k v room
  unfolding check_insertion
  insertion-taken =
      Iff.trans (first_taken (insertion_checks s k v room) (insertion_conditions s k v room) decide)
      (Iff.trans (none-append (reading_conditions None s) later_conditions) (there, back))
    where
      there : NoneApplies (reading_conditions None s) × NoneApplies later_conditions → PermittedInsertion s k v room
      there (none, later) =
          let (none-placing, none-shape) =
          (none-append (placing_conditions cs k v room) (result_conditions result)).0 later in
          let ok = (none-accepted None s).0 none in
          let placed = (placing-none cs k v room).0 none-placing in
          let count = length_inserted k v cs in
          let enough : fewest ≤ length result = omega (arith, ok.1.at_least, count) in record {
            accepted = ok;
            known = placed.known;
            long = placed.long;
            result = record {
              at_least = enough;
              at_most = omega (arith, ok.1.at_most, placed.fewer, count);
              all_in_range = inserted-in-range k v cs placed.known placed.all_in_range ok.1.all_in_range;
              convex = (shape-none result None enough).0 none-shape;
            };
          }

      back : PermittedInsertion s k v room → NoneApplies (reading_conditions None s) × NoneApplies later_conditions
      back may =
          let ok = may.result in
          let count = length_inserted k v cs in
          let placed : Placed cs k v room = record {
            known = may.known;
            all_in_range = rw (inserted-at k v cs may.known) at (ok.all_in_range k (omega (arith, may.known, count)));
            fewer = omega (arith, ok.at_most, count);
            long = may.long;
          } in (
            (none-accepted None s).1 may.accepted,
            (none-append (placing_conditions cs k v room) (result_conditions result)).1
                ((placing-none cs k v room).1 placed, (shape-none result None ok.at_least).1 ok.convex),
          )

module _ (s : List ℤ) (k : ℕ) (v : Corner) (out : List ℤ) where
  pub insertion-able : insertion_verdict s k v out ≡ Ok tt → Insertable s k v out
  insertion-able e = let may = (insertion-taken s k v (length out)).0 e in record { known = may.known; long = may.long }

  judges : Judges (insertion_conditions s k v (length out)) (PermittedInsertion s k v (length out))
      (inserted k v (corners s)) (insertion_verdict s k v out)
  judges = record {
    refuses = insertion-refused s k v (length out);
    takes = insertion-taken s k v (length out);
    accepts = λ may. may.result;
  }

  pub insertion-accepted : insertion_verdict s k v out ≡ Ok tt → AcceptedList (coordinates (inserted k v (corners s)))
  insertion-accepted = edit-accepted judges

  pub is-insertion : IsInsertion s k v out (insertion_verdict s k v out) (insertion_list s k v out)
  is-insertion = is-edit judges out

  pub insertion-unique : {answer : Verdict} {after : List ℤ} → IsInsertion s k v out answer after
      → (answer ≡ insertion_verdict s k v out) × (after ≡ insertion_list s k v out)
  insertion-unique = edit-unique judges out

  pub insertion-promises : {answer : Verdict} {after : List ℤ}
      → answer ≡ insertion_verdict s k v out → after ≡ insertion_list s k v out
      → (answer ≡ insertion_verdict s k v out) × ((after ≡ insertion_list s k v out) × IsInsertion s k v out answer after)
  insertion-promises = edit-promises judges out
