-- `projection::local::foot_is_between` makes the definition's two tests in order.
use Rattle.plane.proofs.Range.{span-difference}
use Rattle.projection.proofs.local.foot_is_between.Goals as goal

pub dot-along-requires : goal.dot-along-requires
dot-along-requires c = search span-difference

pub squared_length-requires : goal.squared_length-requires
squared_length-requires c = search span-difference
