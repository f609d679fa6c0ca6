-- `projection::answers::edge_gap` computes the two numbers exactly.
use Rattle.projection.proofs.Sizes.{length-cast, length-exact, side-square-fits, square-cast, square-exact}
use Rattle.projection.proofs.answers.edge_gap.Goals as goal

pub overflow_mul-result : goal.overflow_mul-result
overflow_mul-result c = side-square-fits c.cross-side.ensures c.requires.span c.requires.span_2

pub overflow_cast-result : goal.overflow_cast-result
overflow_cast-result c = square-cast c.cross-side.ensures c.requires.span c.requires.span_2

pub overflow_cast-result-2 : goal.overflow_cast-result-2
overflow_cast-result-2 c = length-cast c.squared_length-length.ensures c.requires.span

pub returns : goal.returns
returns c =
    λ k. record {
      upper = square-exact c.cross-side.ensures c.requires.span c.requires.span_2 k;
      lower = length-exact c.squared_length-length.ensures c.requires.span k;
    }
