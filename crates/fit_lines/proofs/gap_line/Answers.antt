-- `fit_lines::gap_line` puts the gap into its line.
use Rattle.text.proofs.OutputLaws.{joined}
use Rattle.fit_lines.specs.Lines.{gap_line}
use Rattle.fit_lines.proofs.gap_line.Goals as goal

pub returns : goal.returns
unfolding gap_line
returns c =
    let gap = joined _ _ _ c.bytes.ensures c.fraction.ensures in
    joined _ _ _ gap c.bytes-2.ensures
