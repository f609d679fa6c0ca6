-- `reading::corners::held` puts the corners of the list, as they are held, into the first places, one a turn.
use mathlib.Core.Path.{sym, ◌∙◌}
use native.Mathlib.Omega.{arith}
use Rattle.outline.specs.Corners.{corners}
use Rattle.outline.proofs.OrientationLaws.{held-length}
use Rattle.outline.proofs.HeldLaws.{fill_start, fill_on, fill_end}
use Rattle.reading.proofs.corners.held.Goals as goal

pub loop-i-init : goal.loop-i-init
loop-i-init c =
    let args = c.args in
    let as_many = held-length args.orientation (corners args.s.now) in
    fill_start (c.count-n.ensures ∙ sym as_many) (rw as_many c.requires) c.unfilled-outline.ensures

pub loop-i-preserved : goal.loop-i-preserved
loop-i-preserved c = fill_on c.loop-i.invariant (omega arith) c.held_corner.ensures

pub returns : goal.returns
returns c = fill_end c.loop-i.invariant (omega arith)
