-- `sweep::State::b_is_next` makes the definition's three tests in order.
use Rattle.plane.proofs.Range.{span-difference}
use Rattle.measuring.proofs.WindowLaws.{window-range}
use Rattle.sweep.proofs.State.b_is_next.Goals as goal

pub cross-requires : goal.cross-requires
cross-requires c =
    let in-a = window-range c.requires.seen_a in
    let in_b = window-range c.requires.seen_b in
    search span-difference
