-- `comparing::fill` puts the corners into their places, in order.
use Rattle.outline.proofs.HeldLaws.{Filling}
use Rattle.reading.specs.Accepted.{accepted_corners}
use Rattle.comparing.proofs.fill.Given as goal

abbrev pub invariant-loop-i : goal.invariant-loop-i
invariant-loop-i l = Filling (accepted_corners l.outline) l.i-end l.value l.i
