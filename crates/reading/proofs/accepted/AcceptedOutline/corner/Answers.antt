-- `AcceptedOutline::corner` reads a corner of an accepted list, whose corners are in range.
use Rattle.outline.proofs.EitherLaws.{accepted-held}
use Rattle.reading.proofs.accepted.AcceptedOutline.corner.Goals as goal

pub returns-clause-in_range : goal.returns-clause-in_range
returns-clause-in_range c = rw c.held_corner.ensures ((accepted-held c.args.self.now.accepted).all_in_range _ c.requires)
