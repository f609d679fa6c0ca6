-- `measuring::end_is_nearest` makes the definition's tests in order.
use Rattle.plane.proofs.Range.{span-difference}
use Rattle.measuring.proofs.end_is_nearest.Goals as goal

pub dot-requires : goal.dot-requires
dot-requires c = search span-difference

pub is_right-requires : goal.is_right-requires
is_right-requires c = search span-difference

pub is_left-requires : goal.is_left-requires
is_left-requires c = search span-difference
