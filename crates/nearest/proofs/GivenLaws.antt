-- Rule 3.6: a nearest point with its feature named by the list as given.
--     given-nearest-held     counterclockwise it is named as it is held
--     given-nearest-twice    named twice it is what it was, so nothing is lost
--     given-feature-below    and a feature of the list is one by its number as given
--     answers-below          the feature of an answer has the number of a corner or an edge of the list
use Prim.Native.Nat.{ℕ}
use mathlib.Core.Path.{◌≡◌, refl, ap}
use mathlib.Core.List.{List}
use lib.ListN.{length}
use Rattle.plane.specs.declared.Corner.{Corner}
use Rattle.plane.specs.declared.Point.{Point}
use Rattle.plane.specs.Point.{whole}
use Rattle.outline.specs.declared.Orientation.{Orientation}
use Rattle.outline.specs.declared.Orientation.TheVariants.{Counterclockwise}
use Rattle.outline.specs.Orientation.{given_corner}
use Rattle.outline.proofs.OrientationLaws.{given_below, given-twice, edge-below, edge-twice}
use Rattle.nearest.specs.declared.Feature.{Feature}
use Rattle.nearest.specs.declared.NearestPoint.{NearestPoint}
use Rattle.nearest.specs.Given.{given_feature, given_nearest}
use Rattle.nearest.specs.Nearest.{Fits, Answers}
use Rattle.nearest.specs.code.Given.{FeatureBelow}

-- a nearest point with another feature
abbrev with_feature : NearestPoint → Feature → NearestPoint
with_feature a f = record { feature = f; gap = a.gap; point = a.point }

-- counterclockwise a feature is named as it is held
given-feature-held : (n : ℕ) (f : Feature) → given_feature Counterclockwise n f ≡ f
unfolding given_corner
given-feature-held n Feature.Within = refl
given-feature-held n (Feature.Corner i) = refl
given-feature-held n (Feature.Edge i) = refl

-- so counterclockwise a nearest point is given as it is held
pub given-nearest-held : (n : ℕ) (a : NearestPoint) → given_nearest Counterclockwise n a ≡ a
given-nearest-held n a = ap (with_feature a) (given-feature-held n a.feature)

module _ (o : Orientation) (n : ℕ) where
  -- a feature named twice is what it was
  given-feature-twice : (f : Feature) → FeatureBelow n f → given_feature o n (given_feature o n f) ≡ f
  given-feature-twice Feature.Within below = refl
  given-feature-twice (Feature.Corner i) below = ap Feature.Corner (given-twice o n i below)
  given-feature-twice (Feature.Edge i) below = ap Feature.Edge (edge-twice o n i below)

  -- and so is a nearest point, whose gap and point stay
  pub given-nearest-twice : (a : NearestPoint) → FeatureBelow n a.feature
      → given_nearest o n (given_nearest o n a) ≡ a
  given-nearest-twice a below = ap (with_feature a) (given-feature-twice a.feature below)

  -- as many corners and edges are given
  pub given-feature-below : (f : Feature) → FeatureBelow n f → FeatureBelow n (given_feature o n f)
  given-feature-below Feature.Within below = tt
  given-feature-below (Feature.Corner i) below = given_below o n i below
  given-feature-below (Feature.Edge i) below = edge-below o n i below

-- a feature that fits is one of the list's
fits_below : (cs : List Corner) (v y : Point) (f : Feature) → Fits cs v y f → FeatureBelow (length cs) f
fits_below cs v y Feature.Within fits = tt
fits_below cs v y (Feature.Corner i) (outside, below, same) = below
fits_below cs v y (Feature.Edge i) (outside, below, between) = below

-- the feature of an answer has the number of a corner or an edge of the list
pub answers-below : {cs : List Corner} {v : Corner} {a : NearestPoint} → Answers cs v a
    → FeatureBelow (length cs) a.feature
answers-below {cs} {v} {a} answers = fits_below cs (whole v) a.point a.feature answers.fits
