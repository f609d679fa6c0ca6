-- `plane::difference` meets its contract: coordinates fit 32 bits, so their differences are exact in 64.
use Rattle.std.proofs.Common.{rules}
use Rattle.plane.specs.Vector.{◌⇀◌}
use Rattle.plane.proofs.difference.Goals as goal

pub returns : goal.returns
unfolding ◌⇀◌
returns c = search rules
