-- `answer_text::corner` puts the side's letter and the corner's number, with a space between.
use Rattle.text.proofs.OutputLaws.{joined}
use Rattle.answer_text.specs.Parts.{corner_text}
use Rattle.answer_text.proofs.corner.Goals as goal

pub returns : goal.returns
unfolding corner_text
returns c =
    let space = joined _ _ _ c.side.ensures c.bytes.ensures in
    joined _ _ _ space c.natural.ensures
