-- `wrapping::points::first_by` passes over the points and keeps the first: one of the points, so that it can be compared.
use Rattle.std.proofs.Common.{◌<◌, sym, length, arith}
use Rattle.lists.proofs.FirstByLaws.{choose-start, choose-take, choose-keep, choose-end}
use Rattle.outline.specs.Corners.{corners, origin}
use Rattle.wrapping.proofs.points.first_by.Goals.{then-comes_before, else-comes_before}
use Rattle.wrapping.proofs.points.first_by.Goals as goal

pub loop-i-init : goal.loop-i-init
loop-i-init g c = (
  (0, c.requires.nonzero, c.corner-found.ensures),
  λ before computes. choose-start before origin _ c.requires.nonzero c.corner-found.ensures,
)

pub comes_before-requires : goal.comes_before-requires
comes_before-requires g c =
    let (j, below, is) = c.loop-i.invariant.0 in
    rw (c.corner-next.ensures, is) (c.requires.comparable c.loop-i.i j (omega arith) below)

pub loop-i-preserved : goal.loop-i-preserved
loop-i-preserved g c =
    let below : c.loop-i.i < length (corners c.args.zs.now) = omega arith in
    elim c.if-comes_before.branch [
      | then-comes_before w ↦ rw w.found-is (
        (c.loop-i.i, below, c.corner-next.ensures),
        λ before computes. choose-take before origin _ below (c.loop-i.invariant.1 before computes) c.corner-next.ensures
            (sym (computes _ _ _ w.if-comes_before.ensures)),
      )
      | else-comes_before w ↦ rw w.found-is (
        c.loop-i.invariant.0,
        λ before computes. choose-keep before origin _ below (c.loop-i.invariant.1 before computes) c.corner-next.ensures
            (sym (computes _ _ _ w.if-comes_before.ensures)),
      )
    ]

pub returns : goal.returns
returns g c before computes = choose-end before origin _ (omega arith) (c.loop-i.invariant.1 before computes)
