-- `comparing::fill` puts the corners into their places, in order.
use native.Mathlib.Omega.{arith}
use Rattle.outline.proofs.EitherLaws.{accepted-held}
use Rattle.outline.proofs.HeldLaws.{fill_start, fill_on, fill_end}
use Rattle.comparing.proofs.fill.Goals as goal

pub loop-i-init : goal.loop-i-init
loop-i-init c =
    fill_start c.count-i-end.ensures (accepted-held c.args.outline.now.accepted).at_most
    (rw c.count-i-end.ensures c.requires)

pub loop-i-preserved : goal.loop-i-preserved
loop-i-preserved c = fill_on c.loop-i.invariant c.loop-i-test.true c.corner.ensures.value

pub returns : goal.returns
returns c = fill_end c.loop-i.invariant (omega arith)
