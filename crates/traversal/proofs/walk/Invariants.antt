-- `traversal::walk` reads one record a turn.
use Rattle.traversal.proofs.WalkLaws.{Walking}
use Rattle.traversal.proofs.walk.Given as goal

abbrev pub invariant-loop-count : goal.invariant-loop-count
invariant-loop-count l = Walking l.store l.start l.initial.out l.out (record { count = l.count; index = l.index })
