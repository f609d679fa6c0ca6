-- The support corners of both outlines during the sweep.
use Rattle.std.specs.Prelude.{ℕ, cond, List, [], ◌∷◌, length, take}
use Rattle.outline.specs.Corners.{next}
use Rattle.outline.specs.declared.Side.{Side}
use Rattle.hausdorff.specs.Pair.{Pair, same_side}
use Rattle.hausdorff.specs.AngularOrder.{PairEdge, angular_order}

-- the start of a side's own first edge in a list: edge i starts at corner i. 0 is never taken for want of an edge,
-- since each outline has one
unfoldable pub first_start : List PairEdge → Side → ℕ
first_start [] s = 0
first_start (e ∷ es) s = cond (same_side s e.side) e.number (first_start es s)

-- passing an edge moves that outline's support corner to the end of the edge
abbrev pub pass : Pair → PairEdge → (Side → ℕ) → Side → ℕ
pass pair e support s = cond (same_side s e.side) (next (length (pair s)) e.number) (support s)

-- passing some edges, one after the other
unfoldable pub pass_all : Pair → List PairEdge → (Side → ℕ) → Side → ℕ
pass_all pair [] support = support
pass_all pair (e ∷ es) support = pass_all pair es (pass pair e support)

-- rules 5.4 and 5.5, the support corners after k steps: before step 1 the start of each outline's own first edge in
-- the angular order, and step k passes the k-th edge
abbrev pub support_after : Pair → ℕ → Side → ℕ
support_after pair k = pass_all pair (take k (angular_order pair)) (first_start (angular_order pair))
