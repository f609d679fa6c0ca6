-- `comparing::make_steps` begins at the lowest corners and makes the steps, each with what is seen at the support corners.
use native.Mathlib.Numerals.{add-one}
use native.Mathlib.Omega.{arith}
use Rattle.outline.specs.declared.Side.TheVariants.{A, B}
use Rattle.outline.proofs.EitherLaws.{accepted-held}
use Rattle.comparing.proofs.CompareLaws.{begins, known-held, window-held, can-step}
use Rattle.comparing.proofs.make_steps.Goals as goal

pub lowest-lowest_a-requires : goal.lowest-lowest_a-requires
lowest-lowest_a-requires c = accepted-held c.args.outlines.now.a.accepted

pub lowest-lowest_b-requires : goal.lowest-lowest_b-requires
lowest-lowest_b-requires c = accepted-held c.args.outlines.now.b.accepted

pub loop-init : goal.loop-init
loop-init c =
    let outlines = c.args.outlines.now in
    rw (c.beginning.ensures, c.beginning-2.ensures, c.fill.ensures, c.fill-2.ensures)
    (begins outlines.a.accepted outlines.b.accepted c.lowest-lowest_a.ensures c.lowest-lowest_b.ensures)

pub window-requires : goal.window-requires
window-requires c =
    let outlines = c.args.outlines.now in
    let (fits, known) = known-held outlines.a.accepted outlines.b.accepted c.loop.invariant A in
    rw c.fill.ensures (record { fits = fits; known = known })

pub window-requires-in-loop : goal.window-requires-in-loop
window-requires-in-loop c =
    let outlines = c.args.outlines.now in
    let (fits, known) = known-held outlines.a.accepted outlines.b.accepted c.loop.invariant B in
    rw c.fill-2.ensures (record { fits = fits; known = known })

pub step-state-requires : goal.step-state-requires
step-state-requires c =
    let outlines = c.args.outlines.now in
    can-step outlines.a.accepted outlines.b.accepted c.loop.invariant (omega (arith, c.requires))
    (rw (c.window.ensures, c.fill.ensures) (window-held _))
    (rw (c.window-in-loop.ensures, c.fill-2.ensures) (window-held _))

pub loop-preserved : goal.loop-preserved
unfolding step-state-requires can-step
loop-preserved c = rw add-one (c.step-state.ensures (step-state-requires c.before))
