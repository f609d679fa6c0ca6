-- `answer_text::coordinate` puts a coordinate's two numbers with a bar between.
use mathlib.Core.Path.{sym}
use mir.Facts.{to_z-of_z}
use Rattle.text.specs.Decimal.{signed_decimal}
use Rattle.text.proofs.OutputLaws.{joined}
use Rattle.answer_text.specs.Parts.{coordinate_text}
use Rattle.answer_text.proofs.AppendedLaws.{by-case}
use Rattle.answer_text.proofs.coordinate.Goals as goal

pub returns : goal.returns
unfolding coordinate_text
returns c =
    let upper = by-case signed_decimal _ (sym (to_z-of_z c.ranges.upper)) c.signed.ensures in
    let bar = joined _ _ _ upper c.bytes.ensures in
    joined _ _ _ bar c.natural.ensures
