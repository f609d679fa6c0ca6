-- `fit_lines::report` goes by whether the comparison is spent or done.
use Rattle.text.proofs.OutputLaws.{appended-nil}
use Rattle.answer_text.proofs.AppendedLaws.{by-case}
use Rattle.fit_lines.specs.Lines.{report_text}
use Rattle.fit_lines.proofs.report.Goals as goal

pub returns-in-Spent : goal.returns-in-Spent
returns-in-Spent c = by-case report_text _ c.in-Spent.is (appended-nil _)

pub returns-in-Done : goal.returns-in-Done
returns-in-Done c = by-case report_text _ c.in-Done.is c.done.ensures
