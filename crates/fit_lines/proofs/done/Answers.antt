-- `fit_lines::done` puts the seven lines.
use Rattle.text.proofs.OutputLaws.{joined}
use Rattle.fit_lines.specs.Lines.{done_text}
use Rattle.fit_lines.proofs.done.Goals as goal

pub returns : goal.returns
unfolding done_text
returns c =
    let figure = joined _ _ _ c.gap_line.ensures c.number_line-t.ensures in
    let side_a = joined _ _ _ figure c.side_lines.ensures in
    let side_b = joined _ _ _ side_a c.side_lines-t.ensures in
    joined _ _ _ side_b c.number_line.ensures
