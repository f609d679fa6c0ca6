-- The greatest gap of the corners of a side is the squared distance from its piece to the other.
--     outward             the direction from the nearest point to a corner
--     Extremes            it is not 0, and the corner and its nearest feature are both extreme in it
--     greatest-extreme    so it is for a corner that has the greatest gap of its side, if it is outside the other piece
--     corners-reach       no point of a piece has a greater squared distance from its nearest point than some
--                         corner's gap
--     greatest-directed   the greatest gap of a side's corners is the squared distance from its piece to the other
use Prim.Native.Nat.{ℕ, ◌<◌}
use mathlib.Core.Path.{◌≡◌}
use mathlib.Core.List.{List, [], ◌∷◌, ◌++◌}
use lib.IntN.{ℤ, pos, nat_abs}
use lib.ListN.{length}
use lib.Signed.{◌<ℤ◌}
use Rattle.integers.specs.declared.fraction.Fraction.{Fraction}
use Rattle.integers.specs.Fraction.{NotGreater}
use Rattle.integers.proofs.FractionOrder.{not_greater-trans}
use Rattle.integers.proofs.Order.{≰ℤ-<ℤ, nat_abs-nonneg}
use Rattle.integers.proofs.Polynomial.{var, ◌⊕◌, ◌⊗◌}
use Rattle.integers.proofs.Certificate.{◌≺◌, ◌≗◌, hyp, eqn, ◌⊞◌, ◌⊠◌, prove}
use Rattle.plane.specs.declared.Corner.{Corner}
use Rattle.plane.specs.declared.Point.{Point}
use Rattle.plane.specs.declared.Vector.{Vector}
use Rattle.plane.specs.Point.{whole, ◌⇢◌, squared_distance}
use Rattle.plane.specs.Vector.{◌⇀◌, cross, dot, coordinates}
use Rattle.plane.proofs.Algebra.{O, vec, cross_e, dot_e, ◌⇀E◌, dot-self}
use Rattle.plane.proofs.Halves.{NonZero}
use Rattle.plane.proofs.Points.{PointE, whole_e, ◌⇢E◌, whole-proper}
use Rattle.outline.specs.code.Polygon.{Polygon}
use Rattle.outline.specs.Corners.{corner, edge}
use Rattle.nearest.specs.declared.Feature.{Feature}
use Rattle.nearest.specs.Feature.{foot_on, values}
use Rattle.nearest.specs.code.Local.{Tested, nearest, feature}
use Rattle.nearest.specs.Nearest.{Nearest}
use Rattle.nearest.specs.Piece.{InPiece, Outside}
use Rattle.nearest.specs.code.Scaling.{nearest_at}
use Rattle.nearest.proofs.AnswerLaws.{feature-tested, tested-answers, gap-zero-iff}
use Rattle.nearest.proofs.DistanceLaws.{gap-order, squared_distance-is}
use Rattle.outline.proofs.EdgeLaws.{length-above-0}
use Rattle.nearest.proofs.NearestLaws.{nearest-bound, none_nearer}
use Rattle.nearest.proofs.Scaling.{nearest_at-is}
use Rattle.nearest.proofs.Support.{corner-in-piece, support}
use Rattle.nearest.proofs.Walk.{edge_test}
use Rattle.outline.specs.declared.Side.{Side}
use Rattle.hausdorff.specs.Pair.{Pair, other}
use Rattle.hausdorff.specs.code.Pair.{Polygons}
use Rattle.hausdorff.specs.code.CornerGap.{corner_gap}
use Rattle.hausdorff.specs.Hausdorff.{DistanceAtMost, DistanceAtLeast, Directed}
use Rattle.hausdorff.proofs.Extreme.{ExtremeCorner, ExtremeFeature, corner-extreme-iff}
use Rattle.hausdorff.proofs.GapLaws.{gap_is, gap-distance, gap-positive}
use Rattle.hausdorff.proofs.HalfPlane.{half-plane, not-ahead, gap-zero}

-- The vector to v from its foot on the line through p along e is square to e, and points to the right of e if v is
-- strictly right of the line. As expressions: p, v, e, and the foot's lower number, which is |e|².
foot-normal : (p v : Corner) (e : Vector) → NonZero e → cross e (p ⇀ v) <ℤ pos 0
    → let u = foot_on p e (p ⇀ v) ⇢ whole v in (dot u e ≡ pos 0) × (pos 0 <ℤ cross u e)
unfolding cross dot ◌⇀◌ ◌⇢◌
foot-normal p v e some right =
    let p' = vec 0 in let v' = vec 2 in let e' = vec 4 in let l = dot_e e' e' in let t = dot_e (p' ⇀E v') e' in
    let foot : PointE = record { x = l ⊗ p'.x ⊕ t ⊗ e'.x; y = l ⊗ p'.y ⊕ t ⊗ e'.y; lower = var 6 } in let u = foot ⇢E whole_e v' in
    let env : List ℤ = coordinates (p ∷ v ∷ []) ++ (e.x ∷ e.y ∷ pos (nat_abs (dot e e)) ∷ []) in
    let lower-is = nat_abs-nonneg (dot-self e) in (
      prove env (var 6 ≗ l ∷ []) (dot_e u e' ≗ O) (hyp 0 ⊞ eqn 1 (dot_e v' e')) tt lower-is,
      prove env (var 6 ≗ l ∷ O ≺ l ∷ cross_e e' (p' ⇀E v') ≺ O ∷ []) (O ≺ cross_e u e') (hyp 0 ⊞ hyp 2 ⊠ hyp 3 ⊞ eqn 1 (cross_e e' v')) tt
          lower-is some right,
    )

module _ {cs : List Corner} (polygon : Polygon cs) where
  -- the nearest feature to a point outside is extreme in the direction of that point
  extreme-feature : (v : Corner) → Outside cs (whole v) → (f : Feature) → Tested cs v f
      → ExtremeFeature cs ((values cs v f).point ⇢ whole v) f
  extreme-feature v outside Feature.Within none = outside (tested-answers polygon v Feature.Within none).fits.0
  extreme-feature v outside (Feature.Corner i) (below, holds) =
      (corner-extreme-iff polygon _ i below).1
      (tested-answers polygon v (Feature.Corner i) (below, holds)).nearest.at_most_0
  extreme-feature v outside (Feature.Edge i) (below, holds) =
      let (normal, outward) = foot-normal (corner cs i) v (edge cs i) (length-above-0 polygon i below) ((edge_test v _ _).0 holds).0 in
      record { known = below; normal = normal; outward = outward }

module _ (pair : Pair) (polygons : Polygons pair) where
  -- times the nearest point's lower number
  abbrev pub outward : Side → ℕ → Vector
  outward s i = (nearest (pair (other s)) (corner (pair s) i)).point ⇢ whole (corner (pair s) i)

  pub record Extremes (s : Side) (i : ℕ) : Type 0 where
    pub nonzero : NonZero (outward s i)
    pub corner-extreme : ExtremeCorner (pair s) (outward s i) i
    pub feature-extreme : ExtremeFeature (pair (other s)) (outward s i) (feature (pair (other s)) (corner (pair s) i))

  -- the point given with a corner's gap is its nearest
  gap-nearest : (s : Side) (i : ℕ) → i < length (pair s) → Nearest (pair (other s)) (whole (corner (pair s) i)) (corner_gap pair s i).point
  gap-nearest s i below = (gap_is pair polygons s i below).answers.nearest

  -- were another corner ahead of it, that would have a greater gap
  pub greatest-extreme : (s : Side) (i : ℕ) → i < length (pair s) → Outside (pair (other s)) (whole (corner (pair s) i))
      → ((j : ℕ) → j < length (pair s) → NotGreater (corner_gap pair s j).gap (corner_gap pair s i).gap) → Extremes s i
  greatest-extreme s i below outside greatest =
      let v = corner (pair s) i in let polygon = polygons (other s) in record {
        nonzero = ≰ℤ-<ℤ (λ close. outside ((gap-zero-iff polygon v).0 (gap-zero (gap-distance pair polygons s i) close)));
        corner-extreme = (corner-extreme-iff (polygons s) (outward s i) i below).1 (λ j known.
            not-ahead (gap-distance pair polygons s i) (gap-distance pair polygons s j)
            (nearest-bound polygon (whole-proper v) (gap-nearest s i below) (gap-nearest s j known).in_piece) (greatest j known));
        feature-extreme = extreme-feature polygon v outside (feature (pair (other s)) v) (feature-tested (pair (other s)) v);
      }

  -- the corner is the one that is extreme in the direction from p's nearest point to p
  pub corners-reach : (s : Side) (p : Point) → InPiece (pair s) p
      → (w : ℕ) × (w < length (pair s)) × NotGreater (squared_distance p (nearest_at (pair (other s)) p).point) (corner_gap pair s w).gap
  corners-reach s p inside =
      let polygon = polygons (other s) in let q = (nearest_at (pair (other s)) p).point in
      let nearest = nearest_at-is polygon p inside.proper in
      let (w, below, extreme) = support (polygons s) (q ⇢ p) in (
        w,
        below,
        half-plane (squared_distance-is p q inside.proper nearest.in_piece.proper) (gap-distance pair polygons s w)
            (nearest-bound polygon inside.proper nearest (gap-nearest s w below).in_piece) (extreme p inside),
      )

  -- so where no corner of a side has a gap above g, every point of its piece has one of the other at a squared
  -- distance of at most g
  at_most : (s : Side) (g : Fraction) → ((j : ℕ) → j < length (pair s) → NotGreater (corner_gap pair s j).gap g)
      → DistanceAtMost g (pair s) (pair (other s))
  at_most s g most p inside =
      let q = (nearest_at (pair (other s)) p).point in let (w, below, reach) = corners-reach s p inside in (
        q,
        (nearest_at-is (polygons (other s)) p inside.proper).in_piece,
        not_greater-trans (squared_distance p q) (corner_gap pair s w).gap g (gap-positive pair polygons s w) reach (most w below),
      )

  -- and a corner has none of the other piece at a squared distance below its gap
  at_least : (s : Side) (i : ℕ) → i < length (pair s) → DistanceAtLeast (corner_gap pair s i).gap (pair s) (pair (other s))
  at_least s i below = let v = corner (pair s) i in (
    whole v,
    corner-in-piece (polygons s) i below,
    λ q inside. (gap-order (gap-distance pair polygons s i) (squared_distance-is (whole v) q (whole-proper v) inside.proper)).1
        (none_nearer (polygons (other s)) (whole-proper v) (gap-nearest s i below) inside),
  )

  pub greatest-directed : (s : Side) (i : ℕ) → i < length (pair s)
      → ((j : ℕ) → j < length (pair s) → NotGreater (corner_gap pair s j).gap (corner_gap pair s i).gap)
      → Directed (pair s) (pair (other s)) (corner_gap pair s i).gap
  greatest-directed s i below greatest = record {
    lower_positive = gap-positive pair polygons s i;
    at_most = at_most s (corner_gap pair s i).gap greatest;
    at_least = at_least s i below;
  }
