-- The nearest point of a piece, from its definition alone. v is any point, of whole coordinates or not.
--     nearest-bound                 the inequality of the definition holds at every point of the piece, not only at
--                                   the corners
--     none_nearer, others-farther   no point of the piece is nearer to v, and every other point of it is farther
--     nearest-self                  a point of the piece is its own nearest point
--     nearest-unique                two nearest points are the same point
use mathlib.Core.List.{List}
use lib.IntN.{pos}
use lib.Signed.{◌≤ℤ◌, ≤ℤ_refl}
use Rattle.integers.proofs.Order.{≰ℤ-<ℤ}
use Rattle.plane.specs.declared.Corner.{Corner}
use Rattle.plane.specs.declared.Point.{Point}
use Rattle.plane.specs.Point.{Proper, whole, ◌⇢◌, Same}
use Rattle.plane.specs.Vector.{dot}
use Rattle.plane.proofs.Points.{NotFarther, Nearer, whole-proper, dot-self-0, dot-trans, not-apart}
use Rattle.plane.proofs.Points.{obtuse-not-farther, obtuse-nearer, obtuse-twice}
use Rattle.outline.specs.code.Polygon.{Polygon}
use Rattle.outline.specs.Corners.{corner}
use Rattle.nearest.specs.Piece.{InPiece}
use Rattle.nearest.specs.Nearest.{Nearest}
use Rattle.nearest.proofs.Support.{support}

pub nearest-self : {cs : List Corner} {v : Point} → InPiece cs v → Nearest cs v v
nearest-self {cs} {v} inside = record {
  in_piece = inside;
  at_most_0 = λ i below. rw (dot-self-0 v (v ⇢ whole (corner cs i))) (≤ℤ_refl (pos 0));
}

module _ {cs : List Corner} (polygon : Polygon cs) where
  -- from y to the corner that is extreme in the direction of v, and from there to z
  pub nearest-bound : {v y z : Point} → Proper v → Nearest cs v y → InPiece cs z → dot (y ⇢ v) (y ⇢ z) ≤ℤ pos 0
  nearest-bound {v} {y} {z} proper nearest inside =
      let (w, below, extreme) = support polygon (y ⇢ v) in
      dot-trans (y ⇢ v) y (whole (corner cs w)) z nearest.in_piece.proper (whole-proper (corner cs w)) inside.proper
      (nearest.at_most_0 w below) (extreme z inside)

  module _ {v y z : Point} (proper : Proper v) (nearest : Nearest cs v y) where
    pub none_nearer : InPiece cs z → NotFarther v y z
    none_nearer inside = obtuse-not-farther v y z proper inside.proper (nearest-bound proper nearest inside)

    pub others-farther : InPiece cs z → ¬ Same y z → Nearer v y z
    others-farther inside other =
        obtuse-nearer v y z proper inside.proper (nearest-bound proper nearest inside) (≰ℤ-<ℤ λ close. other (not-apart y z close))

    pub nearest-unique : Nearest cs v z → Same y z
    nearest-unique also =
        obtuse-twice v y z proper nearest.in_piece.proper also.in_piece.proper
        (nearest-bound proper nearest also.in_piece) (nearest-bound proper also nearest.in_piece)
