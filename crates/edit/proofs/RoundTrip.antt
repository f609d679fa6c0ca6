-- Removing and inserting undo each other, of the two calls one after the other.
--     remove-insert       where corner k is removed, inserting it in what was written, as corner k, gives the old list
--     insert-remove       where v is inserted as corner k, removing corner k of what was written gives the old list
--     promised-insert, promised-remove    the same of whatever has the calls' promises
-- The second call has a list to write that is as long as the old one.
use Prim.Native.Nat.{ℕ}
use mathlib.Core.Path.{◌≡◌, sym, ◌∙◌}
use mathlib.Core.List.{List}
use native.Mathlib.Omega.{arith}
use lib.IntN.{ℤ}
use lib.ListN.{length}
use Rattle.std.specs.Prelude.{Ok}
use Rattle.plane.specs.declared.Corner.{Corner}
use Rattle.plane.specs.Vector.{coordinates}
use Rattle.outline.specs.code.Checks.{Verdict}
use Rattle.outline.specs.Corners.{corners, corner}
use Rattle.outline.proofs.CornersLaws.{corners-coordinates, coordinates-corners}
use Rattle.edit.specs.Removal.{without, IsRemoval}
use Rattle.edit.specs.Insertion.{inserted, IsInsertion}
use Rattle.edit.specs.code.Removal.{removal_verdict, list_after}
use Rattle.edit.specs.code.Insertion.{insertion_verdict, insertion_list}
use Rattle.edit.proofs.EditLaws.{list-taken}
use Rattle.edit.proofs.Without.{length_without}
use Rattle.edit.proofs.Inserted.{length_inserted, without-inserted, inserted-without}
use Rattle.edit.proofs.Removal.{removal-taken, removal-accepted, removal-unique}
use Rattle.edit.proofs.Insertion.{insertion-taken, insertion-accepted, insertion-unique}

module _ (s : List ℤ) (k : ℕ) where
  -- the corner that is removed, and the others
  abbrev v : Corner
  v = corner (corners s) k

  abbrev rest : List Corner
  rest = without k (corners s)

  module _ (out back : List ℤ) (long : length back ≡ length s) where
    pub remove-insert : removal_verdict s k out ≡ Ok tt
        → (insertion_verdict (list_after s k out) k v back ≡ Ok tt) × (insertion_list (list_after s k out) k v back ≡ s)
    remove-insert takes =
        let may = (removal-taken s k (length out)).0 takes in
        let again : inserted k v rest ≡ corners s = inserted-without k (corners s) may.known in
        let old = coordinates-corners s may.accepted.0 in
        let inserts : insertion_verdict (coordinates rest) k v back ≡ Ok tt =
        (insertion-taken (coordinates rest) k v (length back)).1 (record {
          accepted = removal-accepted s k out takes;
          known = rw (corners-coordinates rest) (omega (arith, may.known, length_without k (corners s) may.known));
          long = rw (corners-coordinates rest, again, old) long;
          result = rw (corners-coordinates rest, again) may.accepted.1;
        }) in
        rw (list-taken (coordinates rest) out takes)
        (inserts, list-taken _ back inserts ∙ rw (corners-coordinates rest, again) old)

    pub promised-insert : {after back-after : List ℤ} {answer : Verdict} → IsRemoval s k out (Ok tt) after
        → IsInsertion after k v back answer back-after → (answer ≡ Ok tt) × (back-after ≡ s)
    promised-insert removal insertion =
        let (takes, written) = removal-unique s k out removal in
        let (is, back_is) = insertion-unique _ k v back insertion in
        let (inserts, old) = remove-insert (sym takes) in
        (is ∙ rw written inserts, back_is ∙ rw written old)

module _ (s : List ℤ) (k : ℕ) (v : Corner) where
  -- the corners of the result
  abbrev more : List Corner
  more = inserted k v (corners s)

  module _ (out back : List ℤ) (long : length back ≡ length s) where
    pub insert-remove : insertion_verdict s k v out ≡ Ok tt
        → (removal_verdict (insertion_list s k v out) k back ≡ Ok tt) × (list_after (insertion_list s k v out) k back ≡ s)
    insert-remove takes =
        let may = (insertion-taken s k v (length out)).0 takes in
        let count = length_inserted k v (corners s) in
        let again : without k more ≡ corners s = without-inserted k v (corners s) may.known in
        let old = coordinates-corners s may.accepted.0 in
        let removes : removal_verdict (coordinates more) k back ≡ Ok tt =
        (removal-taken (coordinates more) k (length back)).1 (record {
          accepted = insertion-accepted s k v out takes;
          known = rw (corners-coordinates more) (omega (arith, may.known, count));
          more = rw (corners-coordinates more) (omega (arith, may.accepted.1.at_least, count));
          long = rw (corners-coordinates more, again, old) long;
        }) in
        rw (list-taken (coordinates more) out takes)
        (removes, list-taken _ back removes ∙ rw (corners-coordinates more, again) old)

    pub promised-remove : {after back-after : List ℤ} {answer : Verdict} → IsInsertion s k v out (Ok tt) after
        → IsRemoval after k back answer back-after → (answer ≡ Ok tt) × (back-after ≡ s)
    promised-remove insertion removal =
        let (takes, written) = insertion-unique s k v out insertion in
        let (is, back_is) = removal-unique _ k back removal in
        let (removes, old) = insert-remove (sym takes) in
        (is ∙ rw written removes, back_is ∙ rw written old)
