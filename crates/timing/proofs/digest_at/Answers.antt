-- `timing::digest_at` looks for the nearest point where the point is in range.
use Rattle.plane.proofs.Tests.{in_range-true}
use Rattle.timing.proofs.digest_at.Goals as goal

pub nearest-requires : goal.nearest-requires
nearest-requires c = (in_range-true _).0 (rw c.in_range.ensures at c.if-not-in_range.false)
