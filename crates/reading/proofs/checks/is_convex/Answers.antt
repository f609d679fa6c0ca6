-- `reading::checks::is_convex` visits the corners in order and tests each by its visit and that of the corner before.
use mathlib.Core.Path.{◌≡◌, sym, ◌∙◌}
use native.Mathlib.Omega.{arith}
use Prim.Native.Nat.{◌-◌}
use lib.ListN.{length}
use Rattle.outline.specs.Corners.{corners}
use Rattle.outline.specs.code.Turns.{is_convex}
use Rattle.outline.proofs.OrientationLaws.{held-length, held-range}
use Rattle.lists.specs.Fold.{fold}
use Rattle.lists.proofs.FoldLaws.{pass_all}
use Rattle.reading.proofs.VisitLaws.{begins, in_reach, stops, goes_on}
use Rattle.reading.proofs.checks.is_convex.Goals as goal

pub returns-then-n-lt2 : goal.returns-then-n-lt2
unfolding is_convex fold
returns-then-n-lt2 c =
    let args = c.args in
    let none : length (corners args.s.now) - 2 ≡ 0 = omega arith in
    rw (held-length args.orientation (corners args.s.now), none)

pub loop-k-init : goal.loop-k-init
loop-k-init c =
    let args = c.args in let o = args.orientation in let cs = corners args.s.now in
    begins ((held-range o cs).0 c.requires) (c.count-n.ensures ∙ sym (held-length o cs))
    c.held_corner-apex.ensures c.held_corner.ensures c.visit_of-last.ensures

pub keeps_left_by-requires : goal.keeps_left_by-requires
keeps_left_by-requires c =
    let (run, (before, here)) =
    in_reach c.loop-k.invariant (omega arith) c.held_corner-in-loop-k.ensures c.visit_of-visit.ensures in
    record { span = run; in_reach = before; in_reach_2 = here }

pub returns-then-not-keeps_left_by : goal.returns-then-not-keeps_left_by
returns-then-not-keeps_left_by c =
    stops c.loop-k.invariant (omega arith) c.held_corner-in-loop-k.ensures
    c.visit_of-visit.ensures c.keeps_left_by.ensures c.if-not-keeps_left_by.true

pub loop-k-preserved : goal.loop-k-preserved
loop-k-preserved c =
    goes_on c.loop-k.invariant (omega arith) c.held_corner-in-loop-k.ensures
    c.visit_of-visit.ensures c.keeps_left_by.ensures c.if-not-keeps_left_by.false

pub returns : goal.returns
unfolding is_convex
returns c =
    let visiting = c.loop-k.invariant in
    pass_all visiting.passing (omega (arith, visiting.counted, c.loop-k-test.false))
