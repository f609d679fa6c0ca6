-- `projection::answers::foot` computes both coordinates exactly: it hands on a squared length and a dot product, which
-- locals hold.
use mathlib.Core.Path.{◌≡◌}
use lib.IntN.{ℤ}
use Rattle.integers.specs.Size.{AtMost}
use Rattle.integers.proofs.Machine.{i64}
use Rattle.plane.specs.declared.Vector.{Vector}
use Rattle.plane.specs.code.Range.{Span, reach, product_limit}
use Rattle.plane.specs.Vector.{dot}
use Rattle.plane.proofs.Arithmetic.{dot-local}
use Rattle.projection.proofs.Sizes.{length-cast}
use Rattle.projection.proofs.answers.foot.Goals as goal

dot-at-most : {a b : Vector} {z : ℤ} → Span reach a → Span reach b → z ≡ dot a b → AtMost product_limit (i64 z)
dot-at-most h k is = let local = dot-local h k is in rw local.exact local.bound

pub coordinate-requires-clause-at_most : goal.coordinate-requires-clause-at_most
coordinate-requires-clause-at_most c = dot-at-most c.requires.span c.requires.span c.squared_length-length.ensures

pub coordinate-requires-clause-at_most_3 : goal.coordinate-requires-clause-at_most_3
coordinate-requires-clause-at_most_3 c = dot-at-most c.requires.span_2 c.requires.span c.dot-along.ensures

pub coordinate-requires-2-clause-at_most : goal.coordinate-requires-2-clause-at_most
coordinate-requires-2-clause-at_most c = dot-at-most c.requires.span c.requires.span c.squared_length-length.ensures

pub coordinate-requires-2-clause-at_most_3 : goal.coordinate-requires-2-clause-at_most_3
coordinate-requires-2-clause-at_most_3 c = dot-at-most c.requires.span_2 c.requires.span c.dot-along.ensures

pub overflow_cast-result : goal.overflow_cast-result
overflow_cast-result c = length-cast c.squared_length-length.ensures c.requires.span
