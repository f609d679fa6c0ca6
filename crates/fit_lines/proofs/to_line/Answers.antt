-- `fit_lines::to_line` puts the feature and the point into their line.
use Rattle.text.proofs.OutputLaws.{joined}
use Rattle.fit_lines.specs.Lines.{to_line}
use Rattle.fit_lines.proofs.to_line.Goals as goal

pub returns : goal.returns
unfolding to_line
returns c =
    let feature = joined _ _ _ c.bytes.ensures c.feature.ensures in
    let at = joined _ _ _ feature c.bytes-t.ensures in
    let point = joined _ _ _ at c.point.ensures in
    joined _ _ _ point c.bytes-2.ensures
