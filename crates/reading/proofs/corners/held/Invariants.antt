-- `reading::corners::held` puts the corners of the list, as they are held, into the first places, one a turn.
use Rattle.outline.specs.Corners.{corners}
use Rattle.outline.specs.Orientation.{as_held}
use Rattle.outline.proofs.HeldLaws.{Filling}
use Rattle.reading.proofs.corners.held.Given as goal

abbrev pub invariant-loop-i : goal.invariant-loop-i
invariant-loop-i l = Filling (as_held l.orientation (corners l.s)) l.n l.outline l.i
