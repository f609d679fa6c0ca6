-- `fit_lines::comparison` goes by what the comparison gives.
use Rattle.text.proofs.OutputLaws.{joined}
use Rattle.answer_text.proofs.AppendedLaws.{by-case}
use Rattle.fit_lines.specs.Lines.{comparison_text}
use Rattle.fit_lines.proofs.comparison.Goals as goal

pub returns-in-Err : goal.returns-in-Err
returns-in-Err c =
    by-case comparison_text _ c.in-Err.is
    (joined _ _ _ c.refusal.ensures c.bytes.ensures)

pub returns-in-Ok : goal.returns-in-Ok
returns-in-Ok c = by-case comparison_text _ c.in-Ok.is c.report.ensures
