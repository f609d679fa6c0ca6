-- `wrapping::checks::check_points` makes the checks in order.
use borrow.Author.Tests.{eq-eqb, ne_eqb, lt-ltb, le-ltb}
use mathlib.Core.Path.{◌≡◌, ◌∙◌}
use mathlib.Core.Logic.{◌≢◌}
use mathlib.Core.List.{List}
use Prim.Native.Nat.{ℕ, ◌%◌, ◌≤◌, ◌<◌}
use mathlib.Core.Bool.{false}
use lib.Dec.{ltb}
use lib.IntN.{ℤ}
use lib.ListN.{length}
use Rattle.std.proofs.lemmas.Result.{err_from_is_err_and}
use Rattle.std.specs.Prelude.{None, Ok, Err}
use Rattle.outline.specs.code.Checks.{Verdict}
use Rattle.outline.specs.declared.Place.TheVariants.{Nowhere}
use Rattle.outline.specs.declared.Refusal.{Refusal}
use Rattle.outline.specs.Conditions.{odd_length, too_many}
use Rattle.outline.specs.Corners.{corners, most}
use Rattle.outline.specs.Refusal.{refusal}
use Rattle.outline.specs.code.Reading.{check_range}
use Rattle.outline.proofs.ChecksLaws.{first_stops, first-goes-on, first-last}
use Rattle.hull.specs.code.Call.{check_lengths, check_points}
use Rattle.wrapping.proofs.checks.check_points.Goals as goal

-- one check after the other, of a list with n points
module _ (s : List ℤ) (room places : ℕ) where
  odd : length s % 2 ≡ 1 → Err (refusal (odd_length None s) Nowhere) ≡ check_points s room places
  unfolding check_points
  odd is = rw (eq-eqb _ 1 is)

  module _ (even : length s % 2 ≢ 1) {n : ℕ} (count : n ≡ length (corners s)) where
    many : most < n → Err (refusal (too_many None (corners s)) Nowhere) ≡ check_points s room places
    unfolding check_points
    many is = rw (ne_eqb _ 1 even, ← count, lt-ltb most n is)

    module _ (fits : n ≤ most) {v : Verdict} (ranged : v ≡ check_range None (corners s)) where
      not-many : ltb most (length (corners s)) ≡ false
      not-many = le-ltb most _ (rw count at fits)

      out : {r : Refusal} → v ≡ Err r → Err r ≡ check_points s room places
      unfolding check_points
      out refuses = rw (ne_eqb _ 1 even, not-many) (first_stops _ _ ranged refuses)

      lengths : v ≡ Ok tt → {w : Verdict} → w ≡ check_lengths s room places → w ≡ check_points s room places
      unfolding check_points
      lengths takes is =
          rw (ne_eqb _ 1 even, not-many) (first-goes-on _ _ ranged takes (first-last _ is))

pub returns-then-s-eq1 : goal.returns-then-s-eq1
returns-then-s-eq1 c = c.refuse.ensures ∙ odd _ _ _ c.if-s-eq1.true

pub returns-then-count-gt-MOST : goal.returns-then-count-gt-MOST
returns-then-count-gt-MOST c =
    c.refuse-then-count-gt-MOST.ensures
    ∙ many _ _ _ c.if-s-eq1.false c.count.ensures c.if-count-gt-MOST.true

pub returns-in_err-check_range : goal.returns-in_err-check_range
returns-in_err-check_range c =
    let p = err_from_is_err_and c.from_residual.result c.from_residual.ensures.1 in
    rw (p.1, p.2) (out _ _ _ c.if-s-eq1.false c.count.ensures c.if-count-gt-MOST.false c.check_range.ensures
    c.in_err-check_range.was)

pub returns : goal.returns
returns c =
    lengths _ _ _ c.if-s-eq1.false c.count.ensures c.if-count-gt-MOST.false c.check_range.ensures
    c.in_ok-check_range.was c.check_lengths.ensures
