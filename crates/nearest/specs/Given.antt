-- Rule 3.6: a nearest point with its feature named by the list as given, where an outline of n corners is held.
use Rattle.std.specs.Prelude.{ℕ}
use Rattle.outline.specs.declared.Orientation.{Orientation}
use Rattle.outline.specs.Orientation.{given_corner, given_edge}
use Rattle.nearest.specs.declared.Feature.{Feature}
use Rattle.nearest.specs.declared.Feature.TheVariants.{Within, Corner, Edge}
use Rattle.nearest.specs.declared.NearestPoint.{NearestPoint}

-- the feature, with its number as given
abbrev pub given_feature : Orientation → ℕ → Feature → Feature
given_feature o n Within = Within
given_feature o n (Corner j) = Corner (given_corner o n j)
given_feature o n (Edge j) = Edge (given_edge o n j)

-- the nearest point; gap and point stay
abbrev pub given_nearest : Orientation → ℕ → NearestPoint → NearestPoint
given_nearest o n a = record { feature = given_feature o n a.feature; gap = a.gap; point = a.point }
