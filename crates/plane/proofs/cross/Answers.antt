-- `plane::cross` meets its contract: the two products and their difference are exact in 64 bits.
use mir.Syntax.{w64}
use Rattle.integers.proofs.Machine.{stored}
use Rattle.plane.proofs.Arithmetic.{minus-fits, cross-is}
use Rattle.plane.proofs.cross.Goals as goal

pub overflow_sub-result : goal.overflow_sub-result
overflow_sub-result c = search minus-fits

pub returns : goal.returns
returns c =
    (stored w64 (cross-is c.requires.span c.requires.span_2) tt).exact
