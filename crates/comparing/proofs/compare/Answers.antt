-- `comparing::compare` makes the steps that are allowed, at most all, and reports.
use mathlib.Core.Path.{◌∙◌}
use Rattle.outline.proofs.OrientationLaws.{held-length}
use Rattle.comparing.proofs.CompareLaws.{listed-reportable, compare-reports}
use Rattle.comparing.proofs.ReportLaws.{min-steps}
use Rattle.comparing.proofs.compare.Goals as goal

pub report_of-requires : goal.report_of-requires
report_of-requires c =
    let outlines = c.args.outlines.now in
    listed-reportable outlines.a.accepted outlines.b.accepted c.make_steps-state.ensures c.listed-a.ensures c.listed-b.ensures

pub returns : goal.returns
returns c =
    let outlines = c.args.outlines.now in
    compare-reports outlines.a.accepted outlines.b.accepted
    (c.count.ensures ∙ held-length _ _) (c.count-2.ensures ∙ held-length _ _) _ (c.min-steps.ensures ∙ min-steps _ _)
    c.make_steps-state.ensures c.listed-a.ensures c.listed-b.ensures c.report_of.ensures
