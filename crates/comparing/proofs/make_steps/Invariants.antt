-- `comparing::make_steps` begins at the lowest corners and makes the steps, each with what is seen at the support corners.
use Rattle.sweep.specs.State.{IsAfter}
use Rattle.comparing.specs.Outlines.{accepted_pair, accepted_orientations}
use Rattle.comparing.proofs.make_steps.Given as goal

abbrev pub invariant-loop : goal.invariant-loop
invariant-loop l = IsAfter (accepted_pair l.outlines) (accepted_orientations l.outlines) l.counter l.state
