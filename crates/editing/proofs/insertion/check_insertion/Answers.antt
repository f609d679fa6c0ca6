-- `editing::insertion::check_insertion` checks the list, then the place, the point and the lengths, and then the result.
use Prim.Native.Nat.{ℕ, ◌≤◌, ◌<◌}
use mathlib.Core.Path.{◌≡◌, sym, ◌∙◌}
use mathlib.Core.List.{List, ◌++◌}
use native.Mathlib.Omega.{arith}
use lib.IntN.{ℤ}
use lib.ListN.{length}
use Rattle.std.specs.Prelude.{None, Ok, Err}
use Rattle.plane.specs.declared.Corner.{Corner}
use Rattle.plane.specs.Range.{InRange}
use Rattle.outline.specs.code.Checks.{Verdict}
use Rattle.outline.specs.declared.Refusal.{Refusal}
use Rattle.outline.specs.Convex.{AllInRange, Accepted}
use Rattle.outline.specs.Corners.{corners, fewest, most}
use Rattle.outline.specs.code.Reading.{checks, check}
use Rattle.outline.proofs.Acceptance.{accepted}
use Rattle.outline.proofs.ChecksLaws.{append-stops, append-goes-on}
use Rattle.edit.specs.Insertion.{inserted}
use Rattle.edit.specs.code.Insertion.{placing_checks, check_placing, result_checks, check_result, check_insertion}
use Rattle.edit.proofs.Insertion.{placing-taken}
use Rattle.std.proofs.Common.{rules}
use Rattle.editing.proofs.insertion.check_insertion.Goals as goal

-- the checks of the list take it, so its corners are accepted
read-accepted : (s : List ℤ) {u : Verdict} → u ≡ check None s → u ≡ Ok tt → Accepted (corners s)
read-accepted s read taken = ((accepted None s).0 (sym read ∙ taken)).1

-- by what the checks of the list find, u, and then those of 8, 7, 3 and 9, w
module _ (s : List ℤ) (k : ℕ) (v : Corner) (room : ℕ) {u : Verdict} (read : u ≡ check None s) where
  abbrev placing : List Verdict
  placing = placing_checks (corners s) k v room

  abbrev of-result : List Verdict
  of-result = result_checks (inserted k v (corners s))

  unread : {r : Refusal} → u ≡ Err r → Err r ≡ check_insertion s k v room
  unfolding check_insertion check
  unread refuses = sym (append-stops (checks None s) (placing ++ of-result) (sym read ∙ refuses))

  module _ (taken : u ≡ Ok tt) {w : Verdict} (placed : w ≡ check_placing (corners s) k v room) where
    unplaced : {r : Refusal} → w ≡ Err r → Err r ≡ check_insertion s k v room
    unfolding check_insertion check check_placing
    unplaced refuses =
        sym (append-goes-on (checks None s) (placing ++ of-result) (sym read ∙ taken)
        ∙ append-stops placing of-result (sym placed ∙ refuses))

    module _ (fits : w ≡ Ok tt) where
      asks : (fewest ≤ length (corners s)) × ((length (corners s) < most) × (AllInRange (corners s)
          × ((k ≤ length (corners s)) × InRange v)))
      asks =
          let ok = read-accepted s read taken in
          let own = (placing-taken (corners s) k v room).0 (sym placed ∙ fits) in
          (ok.at_least, (omega (arith, ok.at_most, own.fewer), (ok.all_in_range, (own.known, own.all_in_range))))

      by_result : {x : Verdict} → x ≡ check_result (inserted k v (corners s)) → x ≡ check_insertion s k v room
      unfolding check_insertion check check_placing check_result
      by_result decides =
          decides ∙ sym (append-goes-on (checks None s) (placing ++ of-result) (sym read ∙ taken)
          ∙ append-goes-on placing of-result (sym placed ∙ fits))

pub check_placing-requires : goal.check_placing-requires
check_placing-requires c = (read-accepted _ c.check.ensures c.in_ok-check.was).at_most

pub check_result-requires : goal.check_result-requires
check_result-requires c =
    let (three, (room, (all, (known, point)))) =
    asks _ _ _ _ c.check.ensures c.in_ok-check.was c.check_placing.ensures c.in_ok-check_placing.was in
    record {
      fewest_in_bounds = three;
      s_len_bound = room;
      all_in_range = all;
      k_in_bounds = known;
      in_range = point;
    }

pub returns-in_err-check : goal.returns-in_err-check
returns-in_err-check c = search (rules, unread)

pub returns-in_err-check_placing : goal.returns-in_err-check_placing
returns-in_err-check_placing c = search (rules, unplaced, c.in_ok-check.was)

pub returns : goal.returns
returns c = by_result _ _ _ _ c.check.ensures c.in_ok-check.was c.check_placing.ensures c.in_ok-check_placing.was c.check_result.ensures
