-- Laws of removing a corner.
--     removal-refused     the call is refused exactly where a condition applies, with the refusal of the first that
--                         does
--     removal-taken       it is taken exactly where the removal is permitted (`Permitted`)
--     removal-able        where it is taken the other corners can be written
--     removal-accepted    and what is written is an accepted outline
--     is-removal          what the call gives is as rule 7.5 lays down
--     removal-unique      and nothing else is
--     removal-promises    so it has all parts of the call's contract
use Prim.Native.Nat.{ℕ, ◌≤◌}
use mathlib.Core.Path.{◌≡◌, refl}
use mathlib.Core.Logic.Iff
use mathlib.Core.Logic.{◌↔◌}
use mathlib.Core.List.{List}
use native.Mathlib.Omega.{arith}
use lib.IntN.{ℤ}
use lib.ListN.{length}
use Rattle.std.specs.Prelude.{None, Ok, Err}
use Rattle.integers.proofs.Reflect.{test-eqb, test-leb}
use Rattle.plane.specs.Vector.{coordinates}
use Rattle.outline.specs.code.Checks.{Verdict}
use Rattle.outline.specs.declared.Place.TheVariants.{Nowhere}
use Rattle.outline.specs.declared.Refusal.{Refusal}
use Rattle.outline.specs.Conditions.{reading_conditions, AcceptedList}
use Rattle.outline.specs.Corners.{corners}
use Rattle.outline.specs.code.Reading.{checks}
use Rattle.outline.specs.Refusal.{FirstFault}
use Rattle.outline.proofs.Acceptance.{checks-decide, none-accepted}
use Rattle.outline.proofs.ConditionLaws.{◌and◌, AllDecide, first-refused, first_taken}
use Rattle.outline.proofs.ConditionLaws.{NoneApplies, decide-append, none-append, nowhere-plain, test-decides}
use Rattle.edit.specs.Removal.{without, smallest, own_conditions, removal_conditions, Permitted, IsRemoval}
use Rattle.edit.specs.code.Removal.{own_checks, removal_checks, check_removal}
use Rattle.edit.specs.code.Removal.{removal_verdict, list_after}
use Rattle.edit.specs.code.Writing.{Removable}
use Rattle.edit.proofs.EditLaws.{room-decides, room-right, Judges, edit-accepted, is-edit, edit-unique, edit-promises}
use Rattle.edit.proofs.Without.{without-accepted}

module _ (s : List ℤ) (k room : ℕ) where
  abbrev n : ℕ
  n = length (corners s)

  decide : AllDecide (removal_checks s k room) (removal_conditions s k room)
  decide =
      decide-append (checks None s) (own_checks (corners s) k room)
      (reading_conditions None s) (own_conditions (corners s) k room)
      (checks-decide None s) (
      test-decides _ None _ (test-leb n k)
      and test-decides _ None _ (test-eqb n smallest)
      and room-decides (without k (corners s)) room
      and tt
      )

  pub removal-refused : (r : Refusal) → (check_removal s k room ≡ Err r) ↔ FirstFault (removal_conditions s k room) r
  unfolding check_removal
  removal-refused = first-refused (removal_checks s k room) (removal_conditions s k room) decide

  pub removal-taken : (check_removal s k room ≡ Ok tt) ↔ Permitted s k room
  unfolding check_removal
  removal-taken =
      Iff.trans (first_taken (removal_checks s k room) (removal_conditions s k room) decide)
      (Iff.trans (none-append (reading_conditions None s) (own_conditions (corners s) k room)) (there, back))
    where
      there : NoneApplies (reading_conditions None s) × NoneApplies (own_conditions (corners s) k room)
          → Permitted s k room
      there (none, (not-past, (not_three, (not-other, _)))) =
          let reached : ¬ (n ≤ k) = λ past. not-past (Nowhere, (refl, past)) in record {
            accepted = (none-accepted None s).0 none;
            known = omega arith;
            more = λ three. not_three (Nowhere, (refl, three));
            long = room-right (without k (corners s)) room not-other;
          }

      back : Permitted s k room
          → NoneApplies (reading_conditions None s) × NoneApplies (own_conditions (corners s) k room)
      back h = (
        (none-accepted None s).1 h.accepted,
        nowhere-plain (λ past. omega (arith, h.known)) and nowhere-plain h.more
            and nowhere-plain (λ other. other h.long) and tt,
      )

module _ (s : List ℤ) (k : ℕ) (out : List ℤ) where
  pub removal-able : removal_verdict s k out ≡ Ok tt → Removable s k out
  removal-able e = let may = (removal-taken s k (length out)).0 e in record { known = may.known; long = may.long }

  -- four corners or more, less one
  judges : Judges (removal_conditions s k (length out)) (Permitted s k (length out)) (without k (corners s))
      (removal_verdict s k out)
  judges = record {
    refuses = removal-refused s k (length out);
    takes = removal-taken s k (length out);
    accepts = λ may. (let ok = may.accepted.1 in
        without-accepted (corners s) k ok (omega (arith, ok.at_least, may.more)) may.known);
  }

  pub removal-accepted : removal_verdict s k out ≡ Ok tt → AcceptedList (coordinates (without k (corners s)))
  removal-accepted = edit-accepted judges

  pub is-removal : IsRemoval s k out (removal_verdict s k out) (list_after s k out)
  is-removal = is-edit judges out

  pub removal-unique : {answer : Verdict} {after : List ℤ} → IsRemoval s k out answer after
      → (answer ≡ removal_verdict s k out) × (after ≡ list_after s k out)
  removal-unique = edit-unique judges out

  pub removal-promises : {answer : Verdict} {after : List ℤ}
      → answer ≡ removal_verdict s k out → after ≡ list_after s k out
      → (answer ≡ removal_verdict s k out) × ((after ≡ list_after s k out) × IsRemoval s k out answer after)
  removal-promises = edit-promises judges out
