-- `answer_text::fraction` puts the two numbers with a bar between.
use Rattle.text.proofs.OutputLaws.{joined}
use Rattle.answer_text.specs.Parts.{fraction_text}
use Rattle.answer_text.proofs.fraction.Goals as goal

pub returns : goal.returns
unfolding fraction_text
returns c =
    let bar = joined _ _ _ c.natural.ensures c.bytes.ensures in
    joined _ _ _ bar c.natural-2.ensures
