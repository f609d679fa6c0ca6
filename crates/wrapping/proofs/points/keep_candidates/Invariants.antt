-- `wrapping::points::keep_candidates` writes each point after those that passed, and counts it if it passes.
use Rattle.hull.specs.code.Wrapping.{is_candidate}
use Rattle.wrapping.proofs.KeepingLaws.{Keeping}
use Rattle.wrapping.proofs.points.keep_candidates.Given as goal

abbrev pub invariant-loop-i : goal.invariant-loop-i
invariant-loop-i l = Keeping (is_candidate l.s l.p) l.initial.zs l.i l.left l.zs
