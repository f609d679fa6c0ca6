-- `answer_text::feature` goes by the feature.
use Rattle.text.proofs.OutputLaws.{joined}
use Rattle.answer_text.specs.Parts.{feature_text}
use Rattle.answer_text.proofs.AppendedLaws.{by-case}
use Rattle.answer_text.proofs.feature.Goals as goal

pub returns-in-Within : goal.returns-in-Within
returns-in-Within c = by-case feature_text _ c.in-Within.is c.bytes.ensures

pub returns-in-Corner : goal.returns-in-Corner
returns-in-Corner c =
    by-case feature_text _ c.in-Corner.is
    (joined _ _ _ c.bytes-in-Corner.ensures c.natural.ensures)

pub returns-in-Edge : goal.returns-in-Edge
returns-in-Edge c =
    by-case feature_text _ c.in-Edge.is
    (joined _ _ _ c.bytes-in-Edge.ensures c.natural-in-Edge.ensures)
