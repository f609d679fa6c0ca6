-- `reading::checks::is_convex` visits the corners in order and tests each by its visit and that of the corner before.
use Rattle.outline.specs.Corners.{corners}
use Rattle.outline.specs.Orientation.{as_held}
use Rattle.reading.proofs.VisitLaws.{Visiting}
use Rattle.reading.proofs.checks.is_convex.Given as goal

abbrev pub invariant-loop-k : goal.invariant-loop-k
invariant-loop-k l = Visiting (as_held l.orientation (corners l.s)) l.n l.apex l.run l.last l.k
