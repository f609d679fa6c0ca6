-- `reading::checks::take_edge` takes both ends out of the list.
use native.Mathlib.Omega.{arith}
use Rattle.outline.proofs.CornersLaws.{next-below}
use Rattle.reading.proofs.checks.take_edge.Goals as goal

pub corner-q-requires : goal.corner-q-requires
corner-q-requires c =
    rw (c.next-f.ensures, c.count.ensures) (next-below _ _ (omega arith))

pub returns : goal.returns
returns c =
    rw (
      c.difference.ensures,
      c.corner-q.ensures,
      c.corner-p.ensures,
      c.next-f.ensures,
      c.count.ensures,
    )
