-- `wrapping::checks::check_lengths` makes the two tests of the lengths in order.
use borrow.Author.Tests.{eq-eqb, ne_eqb}
use mathlib.Core.Path.{◌∙◌}
use Rattle.wrapping.proofs.checks.check_lengths.Goals as goal

pub returns-then-room-s : goal.returns-then-room-s
returns-then-room-s c = c.refuse.ensures ∙ rw (ne_eqb _ _ c.if-room-s.true)

pub returns-then-mark_room-count : goal.returns-then-mark_room-count
returns-then-mark_room-count c =
    c.refuse-then-mark_room-count.ensures
    ∙ rw (
      eq-eqb _ _ c.if-room-s.false,
      ← c.count.ensures,
      ne_eqb _ _ c.if-mark_room-count.true,
    )

pub returns : goal.returns
returns c =
    rw (eq-eqb _ _ c.if-room-s.false, ← c.count.ensures, eq-eqb _ _ c.if-mark_room-count.false)
