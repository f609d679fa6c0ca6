-- `reading::checks::check_edge` takes the edge out of the list once and tests the corners against it in order.
use mathlib.Core.List.{List}
use mathlib.Core.Bool.{Bool}
use mathlib.Core.Path.{◌≡◌, refl}
use native.Mathlib.Omega.{arith}
use Prim.Native.Nat.{ℕ, ◌<◌}
use lib.ListN.{length}
use Rattle.plane.specs.declared.Corner.{Corner}
use Rattle.plane.specs.Range.{InRange}
use Rattle.plane.specs.code.Range.{Span, reach}
use Rattle.reading.specs.declared.checks.Edge.{Edge}
use Rattle.outline.specs.Convex.{AllInRange}
use Rattle.outline.specs.Corners.{corners, corner}
use Rattle.reading.specs.Edge.{edge_of, is_not_left_of}
use Rattle.outline.specs.code.Reading.{is_not_left, check_edge}
use Rattle.outline.proofs.ChecksLaws.{test-start, test_on, test-found, testing}
use Rattle.outline.proofs.EdgeLaws.{edge-span}
use Rattle.reading.proofs.checks.check_edge.Goals as goal

-- what `is_not_left` asks of the edge
in_reach : (cs : List Corner) (e : ℕ) {edge : Edge}
    → edge ≡ edge_of cs e → e < length cs → AllInRange cs → Span reach edge.run × InRange edge.from
in_reach cs e taken known all = rw taken (edge-span cs all e known, all e known)

-- the test of a corner that was taken out of the list, against the edge that was
tested_at : (cs : List Corner) (e c : ℕ) {b : Bool} {edge : Edge} {v : Corner}
    → b ≡ is_not_left_of edge c v → edge ≡ edge_of cs e → v ≡ corner cs c → b ≡ is_not_left cs e c
tested_at cs e c is taken out = rw (taken, out) at is

pub take_edge-edge-requires : goal.take_edge-edge-requires
take_edge-edge-requires c = c.requires.e_in_bounds

pub loop-c-init : goal.loop-c-init
unfolding check_edge
loop-c-init c = test-start _ c.count-c-end.ensures refl

pub is_not_left-requires : goal.is_not_left-requires
is_not_left-requires c =
    let edge_in = in_reach (corners _) _ c.take_edge-edge.ensures c.requires.e_in_bounds c.requires.all_in_range in
    record {
      span = edge_in.0;
      in_range = edge_in.1;
      in_range_2 = rw c.corner.ensures (c.requires.all_in_range _ (omega arith));
    }

pub returns-then-is_not_left : goal.returns-then-is_not_left
returns-then-is_not_left c =
    test-found c.loop-c.invariant
    (tested_at (corners _) _ _ c.is_not_left.ensures
    c.take_edge-edge.ensures c.corner.ensures)
    c.if-is_not_left.true (omega arith) c.refuse.ensures

pub loop-c-preserved : goal.loop-c-preserved
loop-c-preserved c =
    test_on c.loop-c.invariant
    (tested_at (corners _) _ _ c.is_not_left.ensures
    c.take_edge-edge.ensures c.corner.ensures)
    c.if-is_not_left.false (omega arith)

pub returns : goal.returns
returns c = search testing
