-- `answer_text::point` puts x and y with a space between.
use borrow.Author.Rules.{sfits_of}
use mathlib.Core.Path.{sym}
use lib.IntN.{ℤ}
use mir.Facts.{to_z-of_z}
use mir.Syntax.{w64}
use mir.Val.{SFits}
use Rattle.text.proofs.OutputLaws.{joined}
use Rattle.answer_text.specs.Parts.{point_text, coordinate_text}
use Rattle.answer_text.proofs.AppendedLaws.{by-case}
use Rattle.answer_text.proofs.point.Goals as goal

pub returns : goal.returns
unfolding point_text
returns c =
    let p = c.args.p in
    let x_fits : SFits w64 p.x = search sfits_of in
    let y-fits : SFits w64 p.y = search sfits_of in
    let at_x = c.coordinate in
    let x = by-case (λ (x : ℤ). coordinate_text x p.lower) _ (sym (to_z-of_z x_fits)) at_x.ensures in
    let y = by-case (λ (y : ℤ). coordinate_text y p.lower) _ (sym (to_z-of_z y-fits)) c.coordinate-2.ensures in
    joined _ _ _ (joined _ _ _ x c.bytes-t.ensures) y
