-- `plane::dot` meets its contract: the two products and their sum are exact in 64 bits.
use mir.Syntax.{w64}
use Rattle.integers.proofs.Machine.{stored}
use Rattle.plane.proofs.Arithmetic.{plus-fits, dot-is}
use Rattle.plane.proofs.dot.Goals as goal

pub overflow_add-result : goal.overflow_add-result
overflow_add-result c = search plus-fits

pub returns : goal.returns
returns c =
    (stored w64 (dot-is c.requires.span c.requires.span_2) tt).exact
