-- The rotated list of a polygon, which starts at the next corner, has the same nearest points.
--     rotated-polygon    it is a polygon exactly where the list is
--     renumbered         a feature, by its number in the rotated list
--     rotated-feature    the nearest feature is the same one, renumbered
--     rotated-nearest    so the gap and the point are the same, as they are written
use Prim.Native.Nat.{ℕ, ◌<◌}
use mathlib.Core.Path.{◌≡◌, refl, ap, ◌∙◌}
use mathlib.Core.Logic.{◌↔◌}
use mathlib.Core.List.{List}
use native.Mathlib.Omega.{arith}
use lib.ListN.{length}
use Rattle.plane.specs.declared.Corner.{Corner}
use Rattle.outline.specs.code.Polygon.{Polygon}
use Rattle.outline.specs.Corners.{corner, next, previous}
use Rattle.outline.proofs.CornersLaws.{next-below, next-previous, previous-below, previous-next}
use Rattle.nearest.specs.declared.Feature.{Feature}
use Rattle.nearest.specs.Feature.{values}
use Rattle.nearest.specs.code.Local.{is_corner, is_edge, Tested, feature, nearest}
use Rattle.nearest.proofs.AnswerLaws.{feature-tested, feature-iff}
use Rattle.nearest.proofs.Rotation.{rotated, rotated-length, rotated-corner, rotated-convex}

-- the rotated list is a polygon exactly where the list is
pub rotated-polygon : (cs : List Corner) → Polygon cs ↔ Polygon (rotated cs)
rotated-polygon cs = (
  λ polygon. record {
    at_least = rw (rotated-length cs) polygon.at_least;
    convex = (rotated-convex cs).0 polygon.convex;
  },
  λ polygon. record {
    at_least = rw (rotated-length cs) at polygon.at_least;
    convex = (rotated-convex cs).1 polygon.convex;
  },
)

-- a feature of n corners, by its number in the rotated list
abbrev pub renumbered : ℕ → Feature → Feature
renumbered n Feature.Within = Feature.Within
renumbered n (Feature.Corner i) = Feature.Corner (previous n i)
renumbered n (Feature.Edge i) = Feature.Edge (previous n i)

module _ (cs : List Corner) (v : Corner) where
  abbrev n : ℕ
  n = length cs

  -- corner i has the number before it in the rotated list
  rotated-previous : (i : ℕ) → i < n → corner (rotated cs) (previous n i) ≡ corner cs i
  rotated-previous i below =
      rotated-corner cs (previous n i) (previous-below n i below) ∙ ap (corner cs) (next-previous n i below)

  -- the test at corner i of the rotated list is that at the corner that followed it
  rotated-is-corner : (i : ℕ) → i < n → is_corner (rotated cs) v i ≡ is_corner cs v (next n i)
  rotated-is-corner i below =
      rw (
        rotated-length cs,
        rotated-previous i below,
        rotated-corner cs i below,
        rotated-corner cs (next n i) (next-below n i (omega arith)),
        previous-next n i below,
      )

  -- and so is the test at edge i
  rotated-is-edge : (i : ℕ) → i < n → is_edge (rotated cs) v i ≡ is_edge cs v (next n i)
  rotated-is-edge i below =
      rw (rotated-length cs, rotated-corner cs i below, rotated-corner cs (next n i) (next-below n i (omega arith)))

  -- so where the test of a feature holds, that of the feature renumbered holds in the rotated list
  rotated-tested : (f : Feature) → Tested cs v f → Tested (rotated cs) v (renumbered n f)
  rotated-tested Feature.Within none = λ i known.
      let below = rw (rotated-length cs) at known in
      let (corner-fails, edge-fails) = none (next n i) (next-below n i (omega arith)) in
      (rotated-is-corner i below ∙ corner-fails, rotated-is-edge i below ∙ edge-fails)
  rotated-tested (Feature.Corner i) (below, holds) =
      let before = previous-below n i below in
      (rw (rotated-length cs) before, rotated-is-corner (previous n i) before ∙ rw (next-previous n i below) holds)
  rotated-tested (Feature.Edge i) (below, holds) =
      let before = previous-below n i below in
      (rw (rotated-length cs) before, rotated-is-edge (previous n i) before ∙ rw (next-previous n i below) holds)

  -- and what is written for it is the same but for its number
  rotated-values : (f : Feature) → Tested cs v f
      → ((values (rotated cs) v (renumbered n f)).gap ≡ (values cs v f).gap)
      × ((values (rotated cs) v (renumbered n f)).point ≡ (values cs v f).point)
  rotated-values Feature.Within none = (refl, refl)
  rotated-values (Feature.Corner i) (below, holds) = rw (rotated-previous i below) (refl, refl)
  rotated-values (Feature.Edge i) (below, holds) =
      rw (rotated-length cs, rotated-previous i below, next-previous n i below, rotated-corner cs i below) (refl, refl)

module _ {cs : List Corner} (polygon : Polygon cs) (v : Corner) where
  -- the nearest feature is the same one, renumbered: its test holds, and only one feature's does
  pub rotated-feature : feature (rotated cs) v ≡ renumbered (length cs) (feature cs v)
  rotated-feature =
      (feature-iff ((rotated-polygon cs).0 polygon) v _).1 (rotated-tested cs v (feature cs v) (feature-tested cs v))

  -- the nearest point of a list that starts at the next corner: the same gap and the same point, as they are written
  pub rotated-nearest :
      ((nearest (rotated cs) v).gap ≡ (nearest cs v).gap) × ((nearest (rotated cs) v).point ≡ (nearest cs v).point)
  rotated-nearest = rw rotated-feature (rotated-values cs v (feature cs v) (feature-tested cs v))
