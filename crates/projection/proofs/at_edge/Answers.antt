-- `projection::at_edge` reads the ends of edge i and the corners next to them, and answers by the part that is nearest.
use mathlib.Core.Path.{sym, ap, ◌∙◌}
use native.Mathlib.Omega.{arith}
use Prim.Native.Nat.{◌<◌}
use Rattle.outline.proofs.CornersLaws.{after-below}
use Rattle.std.specs.Prelude.{Some}
use Rattle.outline.proofs.EitherLaws.{accepted-held}
use Rattle.reading.specs.Accepted.{accepted_corners}
use Rattle.projection.proofs.Pass.{vectors-not-here, vectors-right, vectors-span}
use Rattle.projection.proofs.Pass.{Turn, turn-read, turn-right, turn-answer}
use Rattle.projection.proofs.at_edge.Goals as goal

-- the outline has an edge i
below : (c : goal.After-corner-p) → c.args.i < c.count-n.result
below c = omega (arith, c.count-n.ensures, c.requires.edge_vectors.known)

-- what is read when the part of the edge is asked for
turn_at : (c : goal.After-corner-after)
    → Turn (accepted_corners c.args.outline.now) c.args.i c.next-j.result c.corner-before.result
    c.corner-p.result c.corner-q.result c.corner-after.result
turn_at c =
    turn-read c.count-n.ensures (below c.before.before.before) c.next-j.ensures c.previous.ensures
    c.next.ensures c.corner-before.ensures.value c.corner-p.ensures.value c.corner-q.ensures.value c.corner-after.ensures.value

pub turns_left-requires : goal.turns_left-requires
turns_left-requires c =
    let (start, end) =
    vectors-span c.requires.edge_vectors (accepted-held c.args.outline.now.accepted).all_in_range c.requires.in_range in
    record { span = end; span_2 = start }

pub returns-then-not-turns_left : goal.returns-then-not-turns_left
returns-then-not-turns_left c =
    vectors-not-here c.requires.edge_vectors (sym c.turns_left.ensures ∙ c.if-not-turns_left.true)

pub corner-q-requires : goal.corner-q-requires
corner-q-requires c = omega (arith, after-below c.next-j.ensures (below c), c.count-n.ensures)

pub next-requires : goal.next-requires
next-requires c = after-below c.next-j.ensures (below c.before)

pub corner-after-requires : goal.corner-after-requires
corner-after-requires c = omega (arith, after-below c.next.ensures (next-requires c.before), c.count-n.ensures)

pub nearest_part-requires-clause-v_value : goal.nearest_part-requires-clause-v_value
nearest_part-requires-clause-v_value c =
    turn-right (turn_at c) _ (vectors-right c.requires.edge_vectors (sym c.turns_left.ensures ∙ c.if-not-turns_left.false))

pub returns-in_err-part : goal.returns-in_err-part
returns-in_err-part c =
    c.from_residual.ensures
    ∙ turn-answer (turn_at c.before.before.before.before) _ c.nearest_part.ensures _ c.in_err-part.was

pub returns-in-Start : goal.returns-in-Start
returns-in-Start c =
    ap Some c.at_corner.ensures
    ∙ turn-answer (turn_at c.before.before.before.before.before) _ c.nearest_part.ensures _ (c.in_ok-part.was ∙ ap Some c.in-Start.is)

pub returns-in-Between : goal.returns-in-Between
returns-in-Between c =
    ap Some c.on_edge.ensures
    ∙ turn-answer (turn_at c.before.before.before.before.before) _ c.nearest_part.ensures _ (c.in_ok-part.was ∙ ap Some c.in-Between.is)

pub returns-in-End : goal.returns-in-End
returns-in-End c =
    ap Some c.at_corner-in-End.ensures
    ∙ turn-answer (turn_at c.before.before.before.before.before) _ c.nearest_part.ensures _ (c.in_ok-part.was ∙ ap Some c.in-End.is)
