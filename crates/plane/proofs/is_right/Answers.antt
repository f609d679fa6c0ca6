-- `plane::is_right` goes by the side number's sign.
use Rattle.plane.proofs.Range.{span-difference}
use Rattle.plane.proofs.is_right.Goals as goal

pub cross-requires : goal.cross-requires
cross-requires c = search span-difference
