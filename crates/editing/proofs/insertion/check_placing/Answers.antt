-- `editing::insertion::check_placing` makes the four tests in order.
use borrow.Author.Tests.{lt-ltb, le-ltb, eq-eqb, ne_eqb}
use mathlib.Core.Path.{◌≡◌, ◌∙◌}
use mathlib.Core.Logic.{◌≢◌}
use mathlib.Core.Bool.{true, false}
use mathlib.Core.List.{List}
use Prim.Native.Nat.{ℕ, ◌+◌, ◌*◌, ◌≤◌, ◌<◌}
use lib.ListN.{length}
use Rattle.std.specs.Prelude.{Ok, Err}
use Rattle.plane.specs.declared.Corner.{Corner}
use Rattle.plane.specs.code.Range.{in_range}
use Rattle.outline.specs.declared.Place.TheVariants.{Nowhere}
use Rattle.outline.specs.Conditions.{point_out_of_range}
use Rattle.outline.specs.Corners.{most}
use Rattle.outline.specs.Refusal.{refusal}
use Rattle.edit.specs.Edit.{wrong_length}
use Rattle.edit.specs.Insertion.{inserted, past_count, full}
use Rattle.edit.specs.code.Insertion.{check_placing}
use Rattle.edit.proofs.Inserted.{numbers-inserted}
use Rattle.editing.proofs.insertion.check_placing.Goals as goal

-- the four tests, one after the other, of a list with n corners
module _ (cs : List Corner) (k : ℕ) (v : Corner) (room : ℕ) {n : ℕ} (count : n ≡ length cs) where
  past : n < k → Err (refusal (past_count cs k) Nowhere) ≡ check_placing cs k v room
  unfolding check_placing
  past is = rw (← count, lt-ltb n k is)

  module _ (known : k ≤ n) where
    out : in_range v ≡ false → Err (refusal (point_out_of_range v) Nowhere) ≡ check_placing cs k v room
    unfolding check_placing
    out is = rw (← count, le-ltb n k known, is)

    module _ (all_in_range : in_range v ≡ true) where
      already : n ≡ most → Err (refusal (full cs) Nowhere) ≡ check_placing cs k v room
      unfolding check_placing
      already is = rw (← count, le-ltb n k known, all_in_range, eq-eqb n most is)

      module _ (fewer : n ≢ most) where
        wrong-length : room ≢ 2 * (n + 1)
            → Err (refusal (wrong_length (inserted k v cs) room) Nowhere) ≡ check_placing cs k v room
        unfolding check_placing
        wrong-length is =
            rw (
              numbers-inserted k v cs,
              ← count,
              le-ltb n k known,
              all_in_range,
              ne_eqb n most fewer,
              ne_eqb room (2 * (n + 1)) is,
            )

        nothing : room ≡ 2 * (n + 1) → Ok tt ≡ check_placing cs k v room
        unfolding check_placing
        nothing is =
            rw (
              numbers-inserted k v cs,
              ← count,
              le-ltb n k known,
              all_in_range,
              ne_eqb n most fewer,
              eq-eqb room (2 * (n + 1)) is,
            )

pub returns-then-n-k : goal.returns-then-n-k
returns-then-n-k c = c.refuse.ensures ∙ past _ _ _ _ c.count-n.ensures c.if-n-k.true

pub returns-then-not-in_range : goal.returns-then-not-in_range
returns-then-not-in_range c =
    c.refuse-then-not-in_range.ensures
    ∙ out _ _ _ _ c.count-n.ensures c.if-n-k.false (rw c.in_range.ensures at c.if-not-in_range.true)

pub returns-then-n-eq-MOST : goal.returns-then-n-eq-MOST
returns-then-n-eq-MOST c =
    c.refuse-then-n-eq-MOST.ensures
    ∙ already _ _ _ _ c.count-n.ensures c.if-n-k.false (rw c.in_range.ensures at c.if-not-in_range.false)
    c.if-n-eq-MOST.true

pub returns-then-room-n : goal.returns-then-room-n
returns-then-room-n c =
    c.refuse-then-room-n.ensures
    ∙ wrong-length _ _ _ _ c.count-n.ensures c.if-n-k.false
    (rw c.in_range.ensures at c.if-not-in_range.false) c.if-n-eq-MOST.false c.if-room-n.true

pub returns : goal.returns
returns c =
    nothing _ _ _ _ c.count-n.ensures c.if-n-k.false
    (rw c.in_range.ensures at c.if-not-in_range.false) c.if-n-eq-MOST.false c.if-room-n.false
