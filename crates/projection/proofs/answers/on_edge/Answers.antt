-- `projection::answers::on_edge` puts the answer together from the two differences.
use Rattle.plane.proofs.Range.{span-difference}
use Rattle.projection.proofs.answers.on_edge.Goals as goal

pub edge_gap-requires : goal.edge_gap-requires
edge_gap-requires c = search span-difference

pub foot-requires : goal.foot-requires
foot-requires c = search span-difference
