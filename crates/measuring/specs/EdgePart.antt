-- How measuring finds the nearest feature. For the code alone: `proofs/LocalFeatureLaws.antt` shows what it finds.
use Rattle.std.specs.Prelude.{Bool, cond, ◌&&◌, ◌||◌, pos, Option, Some, None}
use Rattle.std.specs.Int.Signed.{le_z, lt_z}
use Rattle.plane.specs.declared.Corner.{Corner}
use Rattle.plane.specs.declared.Vector.{Vector}
use Rattle.plane.specs.Vector.{◌⇀◌, dot}
use Rattle.plane.specs.code.Tests.{is_left, is_right}
use Rattle.projection.specs.declared.local.Part.{Part}
use Rattle.projection.specs.declared.local.Part.TheVariants.{Start, Between, End}
use Rattle.measuring.specs.declared.LocalFeature.{LocalFeature}

-- v, whose foot is not before the end of an edge, is nearest to this end: on the edge between `end` and `beyond` the
-- foot is not past `end` either, and v is strictly right of that edge or of the first (`right`). `is_after`: it is the
-- edge after `end`. The edge before runs from `beyond` to `end`, and so its right is the left of the line from `end` to
-- `beyond`
abbrev pub end_is_nearest : Corner → Bool → Bool → Corner → Corner → Bool
end_is_nearest v right is_after end beyond =
    le_z (dot (end ⇀ v) (end ⇀ beyond)) (pos 0)
    && (right || cond is_after (is_right end (end ⇀ beyond) v) (is_left end (end ⇀ beyond) v))

-- the part of an edge at the support corner that v is nearest to. `to` and `run` lead from that corner to v and to the
-- other end of the edge, which is `end`; `right`: v is strictly right of the edge. Start: the foot is at the support
-- corner, or off the edge on that side; None: v is nearest to none of the edge's parts
abbrev pub edge_part : Corner → Vector → Vector → Bool → Bool → Corner → Corner → Option Part
edge_part v to run right is_after end beyond =
    cond (le_z (dot to run) (pos 0)) (Some Start)
    (cond (lt_z (dot to run) (dot run run)) (cond right (Some Between) None)
    (cond (end_is_nearest v right is_after end beyond) (Some End) None))

-- what is found for v whose feet are at the support corner, or off both edges on that side. Of such points the support
-- corner itself alone is strictly right of neither edge
abbrev pub corner_if : Bool → Bool → Option LocalFeature
corner_if right_after right_before = cond (right_after || right_before) (Some LocalFeature.Corner) None

-- what the parts of the two edges tell: of the edge after the support corner, and of the edge before it. `here` is
-- what is found if both parts are Start
abbrev pub by_parts : Option Part → Option Part → Option LocalFeature → Option LocalFeature
by_parts (Some Between) g here = Some LocalFeature.EdgeAfter
by_parts (Some End) g here = Some LocalFeature.CornerAfter
by_parts (Some Start) (Some Start) here = here
by_parts (Some Start) (Some Between) here = Some LocalFeature.EdgeBefore
by_parts (Some Start) (Some End) here = Some LocalFeature.CornerBefore
by_parts (Some Start) None here = None
by_parts None (Some Start) here = None
by_parts None (Some Between) here = Some LocalFeature.EdgeBefore
by_parts None (Some End) here = Some LocalFeature.CornerBefore
by_parts None None here = None
