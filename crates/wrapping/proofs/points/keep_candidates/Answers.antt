-- `wrapping::points::keep_candidates` writes each point after those that passed, and counts it if it passes.
use Rattle.std.proofs.Common.{◌∙◌, ◌<◌, length, arith}
use Rattle.outline.specs.Corners.{corners}
use Rattle.outline.proofs.CornersLaws.{corners-fit}
use Rattle.wrapping.proofs.KeepingLaws.{keep-start, keep-fewer, keep-count, keep-point, keep-room, keep-pass, keep-fail, keeps-candidates}
use Rattle.wrapping.proofs.points.keep_candidates.Goals.{then-is_candidate, else-is_candidate}
use Rattle.wrapping.proofs.points.keep_candidates.Goals as goal

pub loop-i-init : goal.loop-i-init
loop-i-init c = keep-start _ _

pub corner-z-requires : goal.corner-z-requires
corner-z-requires c = omega (arith, keep-count c.loop-i.invariant)

pub put_corner-requires : goal.put_corner-requires
put_corner-requires c = keep-room c.loop-i.invariant (omega arith)

pub is_candidate-requires-clause-in_range_3 : goal.is_candidate-requires-clause-in_range_3
is_candidate-requires-clause-in_range_3 c =
    let below : c.loop-i.i < length (corners c.args.zs.now) = omega arith in
    rw (c.corner-z.ensures, keep-point c.loop-i.invariant below) (c.requires.all_in_range c.loop-i.i below)

pub overflow_add-left : goal.overflow_add-left
overflow_add-left c = omega (arith, keep-fewer c.loop-i.invariant, corners-fit c.args.zs.now)

pub loop-i-preserved : goal.loop-i-preserved
loop-i-preserved c =
    let below : c.loop-i.i < length (corners c.args.zs.now) = omega arith in
    let is = c.corner-z.ensures ∙ keep-point c.loop-i.invariant below in
    elim c.if-is_candidate.branch [
      | then-is_candidate w ↦ rw (w.left-is, c.put_corner.ensures) (keep-pass c.loop-i.invariant below _ is
          (rw c.is_candidate.ensures at w.if-is_candidate.true))
      | else-is_candidate w ↦ rw (w.left-is, c.put_corner.ensures) (keep-fail c.loop-i.invariant below _ is
          (rw c.is_candidate.ensures at w.if-is_candidate.false))
    ]

pub returns : goal.returns
returns c = keeps-candidates c.loop-i.invariant (omega arith)
