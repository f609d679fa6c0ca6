-- `wrapping::points::is_ahead` goes by the side of the line, and in the line by the lengths.
use mathlib.Core.Path.{◌≡◌, sym, ◌∙◌}
use mathlib.Core.Bool.{Bool, true, false}
use lib.IntN.{pos}
use lib.Signed.{lt_z, <ℤ_irrefl}
use Rattle.integers.specs.Equal.{eq_z}
use Rattle.integers.proofs.Order.{lt_z-false, ≤ℤ-antisym}
use Rattle.integers.proofs.Reflect.{test-eq_z, test-false}
use Rattle.plane.specs.declared.Corner.{Corner}
use Rattle.plane.specs.declared.Vector.{Vector}
use Rattle.plane.specs.Vector.{◌⇀◌, cross, dot}
use Rattle.plane.specs.code.Tests.{is_left, is_right}
use Rattle.plane.proofs.Range.{span-difference}
use Rattle.plane.proofs.Tests.{is_left-true}
use Rattle.hull.specs.code.Wrapping.{is_ahead}
use Rattle.wrapping.proofs.points.is_ahead.Goals as goal

-- by the tests whether z is right of the line to q, and left of it
module _ (p z q : Corner) {run : Vector} (from : run ≡ p ⇀ q) {right : Bool} (of_right : right ≡ is_right p run z) where
  before : right ≡ true → true ≡ is_ahead p z q
  unfolding is_ahead
  before is = rw (← from, ← of_right, is)

  module _ (not_right : right ≡ false) {left : Bool} (of_left : left ≡ is_left p run z) where
    after : left ≡ true → false ≡ is_ahead p z q
    unfolding is_ahead
    after is = rw (← from, ← of_right, not_right, off-line)
      where
        off-line : eq_z (cross run (p ⇀ z)) (pos 0) ≡ false
        off-line =
            (test-false _ (test-eq_z (cross run (p ⇀ z)) (pos 0))).1
            (λ on. <ℤ_irrefl (rw on at ((is_left-true p run z).0 (sym of_left ∙ is))))

    in-line : left ≡ false → {to : Vector} → to ≡ p ⇀ z → {longer : Bool} → longer ≡ lt_z (dot run run) (dot to to)
        → longer ≡ is_ahead p z q
    unfolding is_ahead
    in-line not_left {to} is {longer} of-lengths = rw (← from, ← of_right, not_right, on_line, ← is) of-lengths
      where
        on_line : eq_z (cross run (p ⇀ z)) (pos 0) ≡ true
        on_line =
            (test-eq_z (cross run (p ⇀ z)) (pos 0)).1
            (≤ℤ-antisym (lt_z-false (sym of_left ∙ not_left)) (lt_z-false (sym of_right ∙ not_right)))

pub is_right-requires-clause-span : goal.is_right-requires-clause-span
is_right-requires-clause-span c = span-difference c.difference-run.ensures c.requires.in_range c.requires.in_range_3

pub returns-then-is_right : goal.returns-then-is_right
returns-then-is_right c = before _ _ _ c.difference-run.ensures c.is_right.ensures c.if-is_right.true

pub is_left-requires-clause-span : goal.is_left-requires-clause-span
is_left-requires-clause-span c = span-difference c.difference-run.ensures c.requires.in_range c.requires.in_range_3

pub returns-then-is_left : goal.returns-then-is_left
returns-then-is_left c =
    after _ _ _ c.difference-run.ensures c.is_right.ensures c.if-is_right.false
    c.is_left.ensures c.if-is_left.true

pub is_longer-requires : goal.is_longer-requires
is_longer-requires c =
    record {
      span = span-difference c.difference-run.ensures c.requires.in_range c.requires.in_range_3;
      span_2 = span-difference c.difference.ensures c.requires.in_range c.requires.in_range_2;
    }

pub returns : goal.returns
returns c =
    in-line _ _ _ c.difference-run.ensures c.is_right.ensures c.if-is_right.false
    c.is_left.ensures c.if-is_left.false c.difference.ensures c.is_longer.ensures
