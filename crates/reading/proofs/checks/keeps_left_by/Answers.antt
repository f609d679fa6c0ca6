-- `reading::checks::keeps_left_by` makes the three tests in order.
use mathlib.Core.Bool.{Bool, true, false, ◌&&◌}
use mathlib.Core.Path.{◌≡◌}
use Rattle.reading.proofs.checks.keeps_left_by.Goals as goal

-- three tests in a row, of which r and t answer the first two
module _ (a b c : Bool) {r : Bool} (first : r ≡ a) where
  first-fails : r ≡ false → false ≡ (a && b && c)
  first-fails fails = rw (← first, fails)

  module _ (passes : r ≡ true) {t : Bool} (second : t ≡ b) where
    second-fails : t ≡ false → false ≡ (a && b && c)
    second-fails fails = rw (← first, passes, ← second, fails)

    third-decides : t ≡ true → c ≡ (a && b && c)
    third-decides passes-too = rw (← first, passes, ← second, passes-too)

pub turns_left-requires : goal.turns_left-requires
turns_left-requires c = record { span = c.requires.span; span_2 = c.requires.in_reach_2.diagonal }

pub returns-then-not-turns_left : goal.returns-then-not-turns_left
returns-then-not-turns_left c = first-fails _ _ _ c.turns_left.ensures c.if-not-turns_left.true

pub turns_left-requires-2 : goal.turns_left-requires-2
turns_left-requires-2 c =
    record { span = c.requires.in_reach.diagonal; span_2 = c.requires.in_reach_2.diagonal }

pub returns-then-not-turns_left-2 : goal.returns-then-not-turns_left-2
returns-then-not-turns_left-2 c =
    second-fails _ _ _ c.turns_left.ensures c.if-not-turns_left.false
    c.turns_left-2.ensures c.if-not-turns_left-2.true

pub turns_left-requires-3 : goal.turns_left-requires-3
turns_left-requires-3 c =
    record { span = c.requires.in_reach.edge; span_2 = c.requires.in_reach_2.edge }

pub returns : goal.returns
returns c =
    rw c.turns_left-3.ensures (third-decides _ _ _
    c.turns_left.ensures c.if-not-turns_left.false
    c.turns_left-2.ensures c.if-not-turns_left-2.false)
