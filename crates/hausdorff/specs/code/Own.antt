-- The edges of one side in a list of edges.
use Rattle.std.specs.Prelude.{ℕ, Bool, true, false, List, [], ◌∷◌}
use Rattle.outline.specs.declared.Side.{Side}
use Rattle.hausdorff.specs.Pair.{same_side}
use Rattle.hausdorff.specs.AngularOrder.{PairEdge}

-- a number before a list, if a test holds
abbrev pub cons_if : Bool → ℕ → List ℕ → List ℕ
cons_if true i is = i ∷ is
cons_if false i is = is

-- the numbers of a side's edges, in the list's order
unfoldable pub own : Side → List PairEdge → List ℕ
own s [] = []
own s (e ∷ es) = cons_if (same_side s e.side) e.number (own s es)
