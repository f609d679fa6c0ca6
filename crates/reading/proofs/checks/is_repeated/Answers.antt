-- `reading::checks::is_repeated` compares a corner with the following one.
use native.Mathlib.Omega.{arith}
use Rattle.plane.proofs.Tests.{same-is}
use Rattle.outline.proofs.CornersLaws.{next-below}
use Rattle.reading.proofs.checks.is_repeated.Goals as goal

pub corner-requires-2 : goal.corner-requires-2
corner-requires-2 c = rw (c.next.ensures, c.count.ensures) (next-below _ _ (omega arith))

pub returns : goal.returns
returns c = rw (c.eq.ensures, same-is, c.corner.ensures, c.corner-2.ensures, c.next.ensures, c.count.ensures)
