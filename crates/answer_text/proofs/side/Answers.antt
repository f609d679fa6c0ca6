-- `answer_text::side` goes by the side.
use Rattle.answer_text.specs.Parts.{side_text}
use Rattle.answer_text.proofs.AppendedLaws.{by-case}
use Rattle.answer_text.proofs.side.Goals as goal

pub returns-in-A : goal.returns-in-A
returns-in-A c = by-case side_text _ c.in-A.is c.bytes.ensures

pub returns-in-B : goal.returns-in-B
returns-in-B c = by-case side_text _ c.in-B.is c.bytes-in-B.ensures
