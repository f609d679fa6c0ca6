-- What is found at an edge of an outline. For the code alone.
use Rattle.std.specs.Prelude.{ℕ, ◌<◌, ◌≡◌, List, length, Option, Some, None}
use Rattle.plane.specs.declared.Corner.{Corner}
use Rattle.plane.specs.declared.Vector.{Vector}
use Rattle.plane.specs.Vector.{◌⇀◌}
use Rattle.outline.specs.Corners.{corner, next, previous}
use Rattle.nearest.specs.declared.NearestPoint.{NearestPoint}
use Rattle.nearest.specs.Feature.{corner_values, edge_values}
use Rattle.projection.specs.declared.local.Part.{Part}
use Rattle.projection.specs.declared.local.Part.TheVariants.{Start, Between, End}
use Rattle.projection.specs.Part.{nearest_part}

-- an outline has an edge i, and these are the vectors from v to its start and to its end
pub record EdgeVectors (cs : List Corner) (v : Corner) (i : ℕ) (to_start to_end : Vector) : Type 0 where
  pub known : i < length cs
  pub start : to_start ≡ v ⇀ corner cs i
  pub end : to_end ≡ v ⇀ corner cs (next (length cs) i)

-- the answer for a part of edge i, from p to q, whose end is corner j
abbrev pub edge_answer_for : Corner → ℕ → ℕ → Corner → Corner → Option Part → Option NearestPoint
edge_answer_for v i j p q None = None
edge_answer_for v i j p q (Some Start) = Some (corner_values v i p)
edge_answer_for v i j p q (Some Between) = Some (edge_values v i p q)
edge_answer_for v i j p q (Some End) = Some (corner_values v j q)

-- the part of edge i that is nearest to v, if any
abbrev pub part_at : List Corner → Corner → ℕ → Option Part
part_at cs v i =
    let n = length cs in
    nearest_part v (corner cs (previous n i)) (corner cs i) (corner cs (next n i)) (corner cs (next n (next n i)))

-- the answer for it
unfoldable pub at_edge : List Corner → Corner → ℕ → Option NearestPoint
at_edge cs v i = let j = next (length cs) i in edge_answer_for v i j (corner cs i) (corner cs j) (part_at cs v i)
