-- `sweep::lowest` passes over the corners as held and keeps the lowest, of several the leftmost.
use native.Mathlib.Omega.{arith}
use lib.ListN.{length}
use Prim.Native.Nat.{◌<◌}
use Rattle.outline.specs.Corners.{corners}
use Rattle.outline.specs.Orientation.{as_held}
use Rattle.outline.proofs.OrientationLaws.{held-length}
use Rattle.sweep.proofs.BeginLaws.{search-lower, search-on}
use Rattle.sweep.proofs.lowest.Goals as goal
use Rattle.sweep.proofs.lowest.Goals.{then-is_lower, else-is_lower}

pub loop-i-preserved : goal.loop-i-preserved
loop-i-preserved c =
    let searching = c.loop-i.invariant in
    let below : c.loop-i.i < length (as_held c.args.orientation (corners c.args.s.now)) =
    omega (arith, held-length c.args.orientation (corners c.args.s.now), c.count-i-end.ensures) in
    let compared = rw (c.held_corner.ensures, c.held_corner-in-loop-i.ensures) at c.is_lower.ensures in
    elim c.if-is_lower.branch [
      | then-is_lower w ↦ rw w.found-is (search-lower below searching (rw compared at w.if-is_lower.true))
      | else-is_lower w ↦ rw w.found-is (search-on below searching (rw compared at w.if-is_lower.false))
    ]
