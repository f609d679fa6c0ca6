-- What measuring finds, told from a window. For the code alone: `proofs/LocalFeatureLaws.antt` shows that it is the
-- nearest feature.
use Rattle.std.specs.Prelude.{ℕ, cond, List, Option, None, Some}
use Rattle.plane.specs.declared.Corner.{Corner}
use Rattle.outline.specs.Corners.{next, previous}
use Rattle.nearest.specs.declared.Feature.{Feature}
use Rattle.nearest.specs.declared.NearestPoint.{NearestPoint}
use Rattle.nearest.specs.Feature.{corner_values, edge_values}
use Rattle.nearest.specs.Given.{given_nearest}
use Rattle.nearest.specs.code.Local.{feature}
use Rattle.outline.specs.declared.Orientation.{Orientation}
use Rattle.outline.specs.declared.Side.{Side}
use Rattle.hausdorff.specs.declared.CornerGap.{CornerGap}
use Rattle.hausdorff.specs.code.Counting.{is_counted}
use Rattle.hausdorff.specs.CornerGap.{with_corner}
use Rattle.measuring.specs.declared.Window.{Window}
use Rattle.measuring.specs.declared.LocalFeature.{LocalFeature}

-- v's nearest feature in an outline with support corner b, if v counts; else Within
abbrev pub counted_feature : List Corner → ℕ → Corner → Feature
counted_feature cs b v = cond (is_counted cs b v) (feature cs v) Feature.Within

-- the feature that is meant by a local feature of a window; Within for none
abbrev pub feature_of : Window → Option LocalFeature → Feature
feature_of w None = Feature.Within
feature_of w (Some LocalFeature.Corner) = Feature.Corner w.number
feature_of w (Some LocalFeature.EdgeAfter) = Feature.Edge w.number
feature_of w (Some LocalFeature.EdgeBefore) = Feature.Edge (previous w.count w.number)
feature_of w (Some LocalFeature.CornerAfter) = Feature.Corner (next w.count w.number)
feature_of w (Some LocalFeature.CornerBefore) = Feature.Corner (previous w.count w.number)

-- the gap and the point of a local feature, from the corners of the window
abbrev pub local_values : Corner → Window → LocalFeature → NearestPoint
local_values v w LocalFeature.Corner = corner_values v w.number w.corner
local_values v w LocalFeature.EdgeAfter = edge_values v w.number w.corner w.after
local_values v w LocalFeature.EdgeBefore = edge_values v (previous w.count w.number) w.before w.corner
local_values v w LocalFeature.CornerAfter = corner_values v (next w.count w.number) w.after
local_values v w LocalFeature.CornerBefore = corner_values v (previous w.count w.number) w.before

-- what measuring finds of corner i, at v: none, or the corner with its gap
abbrev pub local_worst : Side → ℕ → Corner → Window → Option LocalFeature → Option CornerGap
local_worst s i v w None = None
local_worst s i v w (Some f) = Some (with_corner s i (local_values v w f))

-- the same with the feature by its number as given, where the window's list has the orientation o
abbrev pub local_given : Side → ℕ → Corner → Orientation → Window → Option LocalFeature → Option CornerGap
local_given s i v o w None = None
local_given s i v o w (Some f) = Some (with_corner s i (given_nearest o w.count (local_values v w f)))
