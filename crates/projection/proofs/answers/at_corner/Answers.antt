-- `projection::answers::at_corner` puts the answer together; the squared distance keeps its size as a u64.
use Rattle.plane.specs.code.Range.{Span, reach}
use Rattle.plane.proofs.Range.{span-difference}
use Rattle.projection.proofs.Sizes.{length-cast}
use Rattle.projection.proofs.answers.at_corner.Goals as goal

pub squared_length-gap-requires : goal.squared_length-gap-requires
squared_length-gap-requires c = search span-difference

pub overflow_cast-result : goal.overflow_cast-result
overflow_cast-result c =
    let reached : Span reach c.difference.result = search span-difference in
    length-cast c.squared_length-gap.ensures reached
