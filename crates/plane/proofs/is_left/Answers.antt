-- `plane::is_left` goes by the side number's sign.
use Rattle.plane.proofs.Range.{span-difference}
use Rattle.plane.proofs.is_left.Goals as goal

pub turns_left-requires : goal.turns_left-requires
turns_left-requires c = search span-difference
