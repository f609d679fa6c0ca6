-- `reading::checks::check_convex` checks the edges in order.
use Rattle.outline.specs.Corners.{corners}
use Rattle.outline.specs.code.Reading.{check_edge, check_convex}
use Rattle.outline.proofs.ChecksLaws.{Scanning}
use Rattle.reading.proofs.checks.check_convex.Given as goal

abbrev pub invariant-loop-e : goal.invariant-loop-e
invariant-loop-e l = Scanning (check_edge l.whose (corners l.s)) (check_convex l.whose (corners l.s)) l.e-end l.e
