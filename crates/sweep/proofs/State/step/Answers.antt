-- `sweep::State::step` finds the local features of both support corners, measures if a worst so far changes, and passes
-- the next edge.
use Rattle.measuring.proofs.WindowLaws.{window-range}
use Rattle.sweep.proofs.StepLaws.{step-measurable, step-bounded, step-passable, measured-passable}
use Rattle.sweep.proofs.StepLaws.{unchanged-after, step_after}
use Rattle.sweep.proofs.State.step.Goals as goal

pub local_feature-requires : goal.local_feature-requires
local_feature-requires c =
    let both = step-measurable c.requires in record { in_range = (window-range both.seen_a).corner; window = both.seen_b }

pub local_feature-requires-2 : goal.local_feature-requires-2
local_feature-requires-2 c =
    let both = step-measurable c.requires in record { in_range = (window-range both.seen_b).corner; window = both.seen_a }

pub changes_worst-requires : goal.changes_worst-requires
changes_worst-requires c = record { measurable = step-measurable c.requires; bounded_state = step-bounded c.requires }

pub with_worst-requires : goal.with_worst-requires
with_worst-requires c = record { measurable = step-measurable c.requires; bounded_state = step-bounded c.requires }

pub passed-requires : goal.passed-requires
passed-requires c =
    rw c.with_worst.ensures (measured-passable c.requires c.local_feature.result c.local_feature-2.result)

pub passed-requires-else-changes_worst : goal.passed-requires-else-changes_worst
passed-requires-else-changes_worst c = step-passable c.requires

pub returns-then-changes_worst : goal.returns-then-changes_worst
returns-then-changes_worst c can =
    let a = c.local_feature in let b = c.local_feature-2 in
    rw (c.passed.ensures, c.with_worst.ensures) (step_after can a.result b.result a.ensures b.ensures)

pub returns-else-changes_worst : goal.returns-else-changes_worst
returns-else-changes_worst c can =
    let a = c.local_feature in let b = c.local_feature-2 in
    rw c.passed-else-changes_worst.ensures
    (unchanged-after can a.result b.result a.ensures b.ensures (rw c.changes_worst.ensures at c.if-changes_worst.false))
