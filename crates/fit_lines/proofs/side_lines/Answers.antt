-- `fit_lines::side_lines` puts the two lines of a side.
use Rattle.text.proofs.OutputLaws.{joined}
use Rattle.fit_lines.specs.Lines.{side_lines}
use Rattle.fit_lines.proofs.side_lines.Goals as goal

pub returns : goal.returns
unfolding side_lines
returns c = joined _ _ _ c.from_line.ensures c.to_line.ensures
