-- `answer_text::place` goes by the place.
use Rattle.text.proofs.OutputLaws.{joined, appended-nil}
use Rattle.answer_text.specs.Parts.{place_text}
use Rattle.answer_text.proofs.AppendedLaws.{by-case}
use Rattle.answer_text.proofs.place.Goals as goal

pub returns-in-Nowhere : goal.returns-in-Nowhere
returns-in-Nowhere c = by-case (place_text _) _ c.in-Nowhere.is (appended-nil _)

pub returns-in-At : goal.returns-in-At
returns-in-At c =
    by-case (place_text _) _ c.in-At.is
    (joined _ _ _ c.bytes.ensures c.natural.ensures)

pub returns-in-EdgeAndCorner : goal.returns-in-EdgeAndCorner
returns-in-EdgeAndCorner c =
    let edge = joined _ _ _ c.bytes-in-EdgeAndCorner.ensures c.natural-in-EdgeAndCorner.ensures in
    let space = joined _ _ _ edge c.bytes-in-EdgeAndCorner-2.ensures in
    by-case (place_text _) _ c.in-EdgeAndCorner.is
    (joined _ _ _ space c.natural-in-EdgeAndCorner-2.ensures)
