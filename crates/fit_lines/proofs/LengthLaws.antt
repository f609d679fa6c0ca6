-- How long the lines are at the most.
--     refusal-line-fits, done-fits    a refusal and the seven lines fit a text
use Prim.Native.Nat.{ℕ, ◌+◌, ◌≤◌}
use mathlib.Core.List.{List}
use native.Mathlib.Omega.{arith}
use lib.ListN.{length, length-append}
use Rattle.integers.specs.declared.fraction.Fraction.{Fraction}
use Rattle.text.specs.Ascii.{ascii}
use Rattle.text.specs.Output.{room}
use Rattle.outline.specs.declared.Refusal.{Refusal}
use Rattle.hausdorff.specs.declared.CornerGap.{CornerGap}
use Rattle.hausdorff.specs.declared.Done.{Done}
use Rattle.answer_text.proofs.LengthLaws.{decimal-fits, corner-fits, feature-fits, fraction-fits, point-fits}
use Rattle.answer_text.proofs.LengthLaws.{refusal-fits}
use Rattle.fit_lines.specs.Lines.{refusal_line, gap_line, number_line, from_line, to_line, side_lines, done_text}

pub refusal-line-fits : (r : Refusal) → length (refusal_line r) ≤ room
refusal-line-fits r = simp length-append (omega (arith, refusal-fits r))

gap-fits : (g : Fraction) → length (gap_line g) ≤ 46
unfolding gap_line
gap-fits g = simp length-append (omega (arith, fraction-fits g))

line-fits : (word : List ℕ) (n : ℕ) → length (number_line word n) ≤ length word + 21
unfolding number_line
line-fits word n = simp length-append (omega (arith, decimal-fits n))

from-fits : (w : CornerGap) → length (from_line w) ≤ 28
unfolding from_line
from-fits w = simp length-append (omega (arith, corner-fits w.side w.corner))

to-fits : (w : CornerGap) → length (to_line w) ≤ 120
unfolding to_line
to-fits w = simp length-append (omega (arith, feature-fits w.feature, point-fits w.point))

side-fits : (w : CornerGap) → length (side_lines w) ≤ 148
unfolding side_lines
side-fits w = simp length-append (omega (arith, from-fits w, to-fits w))

pub done-fits : (d : Done) → length (done_text d) ≤ room
unfolding done_text
done-fits d =
    simp length-append
    (omega (
      arith,
      gap-fits d.answer.gap,
      line-fits (ascii "mm ") d.clearance,
      side-fits d.sides.a,
      side-fits d.sides.b,
      line-fits (ascii "steps ") d.steps,
    ))
