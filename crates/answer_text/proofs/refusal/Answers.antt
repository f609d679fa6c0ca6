-- `answer_text::refusal` puts side, number and place.
use Rattle.text.proofs.OutputLaws.{joined}
use Rattle.answer_text.specs.Parts.{refusal_text}
use Rattle.answer_text.proofs.refusal.Goals as goal

pub returns : goal.returns
unfolding refusal_text
returns c =
    let letter = joined _ _ _ c.bytes.ensures c.refused_side-t.ensures in
    let space = joined _ _ _ letter c.bytes-2.ensures in
    let figure = joined _ _ _ space (rw c.from.ensures at c.natural-t.ensures) in
    joined _ _ _ figure c.place.ensures
