-- `reading::checks::check_length` makes the three tests of the length in order.
use borrow.Author.Tests.{eq-eqb, ne_eqb, lt-ltb, le-ltb}
use mathlib.Core.Path.{◌∙◌}
use Rattle.reading.proofs.checks.check_length.Goals as goal

pub returns-then-s-eq1 : goal.returns-then-s-eq1
returns-then-s-eq1 c = c.refuse.ensures ∙ rw (eq-eqb _ 1 c.if-s-eq1.true)

pub returns-then-n-lt-FEWEST : goal.returns-then-n-lt-FEWEST
returns-then-n-lt-FEWEST c =
    c.refuse-then-n-lt-FEWEST.ensures
    ∙ rw (
      ne_eqb _ 1 c.if-s-eq1.false,
      ← c.count-n.ensures,
      lt-ltb _ 3 c.if-n-lt-FEWEST.true,
    )

pub returns-then-n-gt-MOST : goal.returns-then-n-gt-MOST
returns-then-n-gt-MOST c =
    c.refuse-then-n-gt-MOST.ensures
    ∙ rw (
      ne_eqb _ 1 c.if-s-eq1.false,
      ← c.count-n.ensures,
      le-ltb _ 3 c.if-n-lt-FEWEST.false,
      lt-ltb 256 _ c.if-n-gt-MOST.true,
    )

pub returns : goal.returns
returns c =
    rw (
      ne_eqb _ 1 c.if-s-eq1.false,
      ← c.count-n.ensures,
      le-ltb _ 3 c.if-n-lt-FEWEST.false,
      le-ltb 256 _ c.if-n-gt-MOST.false,
    )
