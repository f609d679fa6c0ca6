-- Rule 5.2: the angular order of the edges of both outlines.
use Rattle.std.specs.Prelude.{ℕ, Bool, ◌&&◌, ◌||◌, List, [], ◌∷◌, ◌++◌, length}
use Rattle.lists.specs.Fold.{joined}
use Rattle.lists.specs.Lists.{sort}
use Rattle.plane.specs.declared.Vector.{Vector}
use Rattle.plane.specs.Direction.{is_before, same_direction}
use Rattle.outline.specs.Corners.{edge}
use Rattle.outline.specs.declared.Side.{Side}
use Rattle.outline.specs.declared.Side.TheVariants.{A, B}
use Rattle.hausdorff.specs.Pair.{Pair, same_side}

-- an edge of one of the two outlines
pub record PairEdge : Type 0 where
  pub side : Side
  pub number : ℕ

-- its differences, whose direction counts
abbrev pub direction : Pair → PairEdge → Vector
direction pair e = edge (pair e.side) e.number

-- e comes before f: by direction, and at equal direction A's edge before B's
unfoldable pub precedes : Pair → PairEdge → PairEdge → Bool
precedes pair e f =
    is_before (direction pair e) (direction pair f)
    || (same_direction (direction pair e) (direction pair f) && (same_side e.side A && same_side f.side B))

-- the edges of a side with numbers below n
abbrev pub edges_below : Side → ℕ → List PairEdge
edges_below s n = joined (λ i. record { side = s; number = i } ∷ []) n

-- all edges of both outlines
abbrev pub all_edges : Pair → List PairEdge
all_edges pair = edges_below A (length (pair A)) ++ edges_below B (length (pair B))

-- all edges by direction; at equal direction A's comes first. `order-members`, `order-distinct` and
-- `order-sorted` in `proofs/OrderLaws.antt` show that each edge stands in it once, and none after one that it precedes
unfoldable pub angular_order : Pair → List PairEdge
angular_order pair = sort (precedes pair) (all_edges pair)
