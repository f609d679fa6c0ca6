-- An edge, taken out of a list of corners once for all corners that are tested against it. For the code alone.
use Rattle.std.specs.Prelude.{ℕ, Bool, not, ◌&&◌, List, eqb, length}
use Rattle.plane.specs.declared.Corner.{Corner}
use Rattle.plane.specs.code.Tests.{is_left}
use Rattle.reading.specs.declared.checks.Edge.{Edge}
use Rattle.outline.specs.Corners.{corner, next, edge}

-- edge e: it runs from corner e to the following one
abbrev pub edge_of : List Corner → ℕ → Edge
edge_of cs e = record {
  start = e;
  end = next (length cs) e;
  from = corner cs e;
  run = edge cs e;
}

-- corner c, at v, is no end of the edge and not strictly left of it. `is_not_left` in `outline/specs/code/Reading.antt`
-- is the same test of a list and two numbers
abbrev pub is_not_left_of : Edge → ℕ → Corner → Bool
is_not_left_of edge c v =
    not (eqb c edge.start)
    && not (eqb c edge.end)
    && not (is_left edge.from edge.run v)
