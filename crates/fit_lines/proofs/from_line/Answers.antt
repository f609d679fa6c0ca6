-- `fit_lines::from_line` puts side and corner into their line.
use Rattle.text.proofs.OutputLaws.{joined}
use Rattle.fit_lines.specs.Lines.{from_line}
use Rattle.fit_lines.proofs.from_line.Goals as goal

pub returns : goal.returns
unfolding from_line
returns c =
    let corner = joined _ _ _ c.bytes.ensures c.corner.ensures in
    joined _ _ _ corner c.bytes-2.ensures
