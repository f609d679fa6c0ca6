-- `projection::nearest` goes over the edges in order and answers with the first nearest point that is found.
use Rattle.reading.specs.Accepted.{accepted_corners}
use Rattle.projection.proofs.Pass.{Passing}
use Rattle.projection.proofs.nearest.Given as goal

abbrev pub invariant-loop-i : goal.invariant-loop-i
invariant-loop-i l = Passing (accepted_corners l.outline) l.v l.n l.i l.to_start
