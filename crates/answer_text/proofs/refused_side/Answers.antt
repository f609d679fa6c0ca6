-- `answer_text::refused_side` goes by whether there is a side.
use Rattle.text.proofs.OutputLaws.{appended-nil, joined}
use Rattle.answer_text.specs.Parts.{refused_side_text}
use Rattle.answer_text.proofs.AppendedLaws.{by-case}
use Rattle.answer_text.proofs.refused_side.Goals as goal

pub returns-in-None : goal.returns-in-None
returns-in-None c = by-case refused_side_text _ c.in-None.is (appended-nil _)

pub returns-in-Some : goal.returns-in-Some
returns-in-Some c =
    by-case refused_side_text _ c.in-Some.is
    (joined _ _ _ c.bytes.ensures c.side.ensures)
