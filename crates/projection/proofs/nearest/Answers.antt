-- `projection::nearest` goes over the edges in order and answers with the first nearest point that is found.
use mathlib.Core.Path.{◌≡◌, ap, ◌∙◌}
use native.Mathlib.Omega.{arith}
use Rattle.plane.specs.declared.Corner.{Corner}
use Rattle.plane.specs.declared.Vector.{Vector}
use Rattle.plane.specs.Vector.{◌⇀◌}
use Rattle.outline.proofs.CornersLaws.{after-below}
use Rattle.outline.proofs.EitherLaws.{accepted-held}
use Rattle.projection.proofs.Pass.{pass-none, pass_on, pass-here}
use Rattle.projection.proofs.nearest.Goals as goal

-- the vector from v to the end of the edge
end_is : (v : Corner) {p : Corner} {to_end : Vector} (q : Corner) → to_end ≡ v ⇀ p → p ≡ q → to_end ≡ v ⇀ q
end_is v q is is-p = is ∙ ap (λ (p : Corner). v ⇀ p) is-p

pub corner-requires-in-loop-i : goal.corner-requires-in-loop-i
corner-requires-in-loop-i c = omega (arith, after-below c.next.ensures c.loop-i-test.true, c.count-n.ensures)

pub returns-in-Some : goal.returns-in-Some
returns-in-Some c =
    pass-here c.loop-i.invariant c.loop-i-test.true c.next.ensures
    (end_is _ _ c.difference-to_end.ensures c.corner-in-loop-i.ensures.value)
    c.at_edge.ensures (accepted-held c.args.outline.now.accepted) c.in-Some.is

pub loop-i-preserved : goal.loop-i-preserved
loop-i-preserved c =
    pass_on c.loop-i.invariant c.loop-i-test.true c.next.ensures
    (end_is _ _ c.difference-to_end.ensures c.corner-in-loop-i.ensures.value)
    c.at_edge.ensures c.in_default.is

pub returns : goal.returns
returns c =
    c.within.ensures ∙ pass-none c.loop-i.invariant (accepted-held c.args.outline.now.accepted) (omega arith)
