-- `reading::corners::next` is the definition's test.
use mathlib.Core.Path.{sym, ◌∙◌}
use native.Mathlib.Numerals.{add-one}
use native.Mathlib.Omega.{arith}
use Rattle.outline.proofs.CornersLaws.{next-suc, next_last}
use Rattle.reading.proofs.corners.next.Goals as goal

pub returns-then-i-n : goal.returns-then-i-n
returns-then-i-n c =
    add-one c.args.i ∙ sym (next-suc c.args.n c.args.i (omega arith))

pub returns-else-i-n : goal.returns-else-i-n
returns-else-i-n c = sym (next_last c.args.n c.args.i (omega arith))
