-- `encoding::results::of_side` has the numbers of what is reported of the side.
use Rattle.outline.specs.declared.Side.{Side}
use Rattle.outline.specs.declared.Side.TheVariants.{A, B}
use Rattle.hausdorff.specs.declared.Report.{Report}
use Rattle.hausdorff.specs.code.Sizes.{WorstFits, ReportFits}
use Rattle.encoding.specs.Results.{reported_of}
use Rattle.encoding.proofs.results.of_side.Goals as goal

-- the numbers of a report fit, so those of each side do
side-fits : (s : Side) (r : Report) → ReportFits r → WorstFits (reported_of s r)
side-fits A (Report.Spent p) fits = fits.side_a
side-fits B (Report.Spent p) fits = fits.side_b
side-fits A (Report.Done d) fits = fits.side_a
side-fits B (Report.Done d) fits = fits.side_b

pub of_worst-requires : goal.of_worst-requires
of_worst-requires c =
    let given = c.args in
    rw c.reported_of.ensures (side-fits given.side given.report c.requires)
