-- `fit_lines::number_line` puts the number between the word and the line end.
use Rattle.text.proofs.OutputLaws.{joined}
use Rattle.fit_lines.specs.Lines.{number_line}
use Rattle.fit_lines.proofs.number_line.Goals as goal

pub returns : goal.returns
unfolding number_line
returns c =
    let number = joined _ _ _ c.bytes.ensures c.natural.ensures in
    joined _ _ _ number c.bytes-2.ensures
