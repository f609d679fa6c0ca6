-- `sweep::lowest` passes over the corners as held and keeps the lowest, of several the leftmost.
use Rattle.outline.specs.Corners.{corners}
use Rattle.outline.specs.Orientation.{as_held}
use Rattle.sweep.proofs.BeginLaws.{Searching}
use Rattle.sweep.proofs.lowest.Given as goal

abbrev pub invariant-loop-i : goal.invariant-loop-i
invariant-loop-i l = Searching (as_held l.orientation (corners l.s)) l.found l.i
