-- `reading::corners::count` counts two numbers to a corner.
use mathlib.Core.Path.{sym}
use Rattle.outline.proofs.CornersLaws.{length-corners}
use Rattle.reading.proofs.corners.count.Goals as goal

pub returns : goal.returns
returns c = sym (length-corners c.args.s.now)
