-- What a corner's gap is.
--     gap-iff             `corner_gap` is the one that the nearest relation gives
--     gap_is              so it is a gap
--     gap-distance        it is the squared distance of its point
--     gap-positive, gap-lower    its lower number is above 0
--     least_iff           a gap is not greater than that of a corner within exactly where its own corner is within
use Prim.Native.Nat.{ℕ, ◌<◌}
use mathlib.Core.Path.{◌≡◌, refl, sym, ap, subst}
use mathlib.Core.Logic.Iff
use mathlib.Core.Logic.{◌↔◌}
use lib.ListN.{length}
use Rattle.integers.specs.Fraction.{NotGreater}
use Rattle.integers.proofs.FractionOrder.{not_greater-zero}
use Rattle.outline.specs.Corners.{corner}
use Rattle.nearest.specs.Nearest.{Answers}
use Rattle.nearest.proofs.DistanceLaws.{IsSquaredDistance}
use Rattle.nearest.specs.code.Local.{nearest}
use Rattle.nearest.proofs.AnswerLaws.{answers-iff, nearest-distance, gap-zero-iff}
use Rattle.hausdorff.specs.declared.CornerGap.{CornerGap}
use Rattle.outline.specs.declared.Side.{Side}
use Rattle.hausdorff.specs.Pair.{Pair, other}
use Rattle.hausdorff.specs.code.Pair.{Polygons}
use Rattle.hausdorff.specs.CornerGap.{with_corner, nearest_of}
use Rattle.hausdorff.specs.code.CornerGap.{corner_gap}
use Rattle.hausdorff.specs.Answer.{IsGap}
use lib.Dec.{ltb→lt}
use Rattle.plane.specs.Point.{whole}
use Rattle.nearest.specs.Piece.{InPiece}

module _ (pair : Pair) (polygons : Polygons pair) where
  -- both say what is nearest to the corner; the rest of w is its name
  pub gap-iff : (w : CornerGap) → IsGap pair w ↔ ((w.corner < length (pair w.side)) × (w ≡ corner_gap pair w.side w.corner))
  gap-iff w = (
    λ is. (is.known, ap (with_corner w.side w.corner) (meaning.0 is.answers)),
    λ (known, is). record { known = known; answers = meaning.1 (ap nearest_of is) },
  )
    where
      meaning : Answers (pair (other w.side)) (corner (pair w.side) w.corner) (nearest_of w)
          ↔ (nearest_of w ≡ nearest (pair (other w.side)) (corner (pair w.side) w.corner))
      meaning = answers-iff (polygons (other w.side)) (corner (pair w.side) w.corner) (nearest_of w)

  -- `corner_gap` is the gap of the definition
  pub gap_is : (s : Side) (i : ℕ) → i < length (pair s) → IsGap pair (corner_gap pair s i)
  gap_is s i below = (gap-iff (corner_gap pair s i)).1 (below, refl)

  -- and the squared distance of its point
  pub gap-distance : (s : Side) (i : ℕ) → IsSquaredDistance (whole (corner (pair s) i)) (corner_gap pair s i).point (corner_gap pair s i).gap
  gap-distance s i = nearest-distance (polygons (other s)) (corner (pair s) i)

  -- a squared distance has a lower number above 0
  pub gap-positive : (s : Side) (i : ℕ) → 0 < (corner_gap pair s i).gap.lower
  gap-positive s i = ltb→lt 0 _ (gap-distance s i).lower_positive.lt

  -- a gap has a lower number above 0, so that the order of gaps is transitive
  pub gap-lower : (z : CornerGap) → IsGap pair z → 0 < z.gap.lower
  gap-lower z is =
      subst (λ (x : CornerGap). 0 < x.gap.lower) (sym ((gap-iff z).0 is).1) (gap-positive z.side z.corner)

  -- a gap that is not greater than that of a corner within is that of a corner within
  pub least_iff : (s t : Side) (i j : ℕ) → InPiece (pair (other t)) (whole (corner (pair t) j))
      → NotGreater (corner_gap pair s i).gap (corner_gap pair t j).gap ↔ InPiece (pair (other s)) (whole (corner (pair s) i))
  least_iff s t i j inside = Iff.trans
      (not_greater-zero (corner_gap pair s i).gap (corner_gap pair t j).gap (gap-positive t j)
      ((gap-zero-iff (polygons (other t)) (corner (pair t) j)).1 inside))
      (gap-zero-iff (polygons (other s)) (corner (pair s) i))
