-- `wrapping::wrap` finds a corner a turn, and leaves out the points that can no longer come.
use Rattle.wrapping.proofs.WrapLaws.{Wrapping}
use Rattle.wrapping.proofs.wrap.Given as goal

abbrev pub invariant-loop-left : goal.invariant-loop-left
invariant-loop-left l = Wrapping l.s l.initial.zs l.initial.hull l.initial.left l.zs l.hull l.count l.last l.left

abbrev pub decreases-loop-left : goal.decreases-loop-left
decreases-loop-left l = l.left
